-- what the outside does, whatever holds the documents
pub mod Events
-- what is pending fits the indexes
pub mod Fitting
-- what is replied to a text of statements
pub mod Statements
-- a session over a connection
pub mod Session
-- what clauses cite of lower crates, passed on
pub use Rattle.serve_line.specs.Machines
pub use Rattle.serve_line.specs.declared.line.LinkEnd
pub use Rattle.ql_answers.specs.declared.job_outcome.JobOutcome
pub mod steps
