-- A refusal of reading, as a refusal of opening.
use Rattle.ksi_disk.specs.declared.refusal.ReadRefusal.{ReadRefusal}
use Rattle.ksi_disk.specs.declared.refusal.ReadRefusal.TheVariants as read
use Rattle.ksi_nodestore.specs.declared.refusal.OpenRefusal.{OpenRefusal}
use Rattle.ksi_nodestore.specs.declared.refusal.OpenRefusal.TheVariants as open_refusal

abbrev pub as_refusal : ReadRefusal → OpenRefusal
as_refusal read.Failed = open_refusal.Failed
as_refusal read.NoMemory = open_refusal.NoMemory
