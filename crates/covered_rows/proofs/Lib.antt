mod Counts
mod Owning
mod Passing
mod Ranges
mod RowCover
mod AllRows
