mod AtOnce
mod Running
mod Writing
