mod RunLemmas
mod Told
