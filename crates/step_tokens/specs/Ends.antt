-- Ends: what a reading end remembers. It is nothing, since fronts remember.
use Rattle.step_tokens.specs.declared.rule.Idle.{Idle}

abbrev pub idle : Idle
idle = record {}
