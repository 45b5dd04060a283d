mod Writing
mod Lengths
mod Rows
