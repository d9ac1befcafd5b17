mod Superposition
mod Affine
mod Impulses
mod Responding
mod Channels
mod Equations
