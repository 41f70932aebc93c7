mod Lines
mod Pieces
mod SayLemmas
mod ServeLemmas
mod RoundWritten
mod Planned
