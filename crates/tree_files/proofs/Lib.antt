mod Judging
mod Verdicts
mod Writing
mod Runs
