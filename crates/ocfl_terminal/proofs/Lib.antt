mod Respelling
mod Scopes
mod Givens
mod Foreign
