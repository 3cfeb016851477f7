mod Writing
mod Lines
mod Replying
