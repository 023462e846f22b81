mod Ends
mod Reading
