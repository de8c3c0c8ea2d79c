mod Reading
mod Writing
mod Long
