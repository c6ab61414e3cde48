mod MapEntries
mod Places
mod Variants
