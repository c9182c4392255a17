mod HeadReading
mod Ordered
mod TableReading
