mod Circles
mod Exactly
