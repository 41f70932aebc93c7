-- What a reading takes is what a load may take.
use Rattle.std.proofs.Common.{ℕ, List, Result, Ok, Err, arith}
use Rattle.ksi_ports.specs.declared.files.LoadRefusal.{LoadRefusal}
use Rattle.ksi_ports.specs.declared.files.LoadRefusal.TheVariants.{Failed, TooLong, NoMemory}
use Rattle.ksi_ports.specs.Outside.{LoadTakes}
use Rattle.ksi_ports.specs.Host.{ReadTakes}

pub load_takes : (most before now : ℕ) (result : Result (List ℕ) LoadRefusal) → ReadTakes most before now result → LoadTakes most before now result
load_takes most before now (Ok bytes) takes = takes
load_takes most before now (Err Failed) takes = record { later = takes.later; no_more = omega (arith, takes.no_more) }
load_takes most before now (Err TooLong) takes = takes
load_takes most before now (Err NoMemory) takes = takes.1
