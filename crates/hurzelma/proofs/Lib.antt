mod EachCause
mod Legs
mod Told
