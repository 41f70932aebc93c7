-- The refusal if the content of an extended signature is too long.
use Rattle.ksi_signature.specs.declared.refusal.WriteRefusal.{WriteRefusal}
use Rattle.ksi_signature.specs.declared.refusal.WriteRefusal.TheVariants as unwritten
use Rattle.ksi_signature.specs.declared.extension.WithRefusal.{WithRefusal}
use Rattle.ksi_signature.specs.declared.extension.WithRefusal.TheVariants as refusals

abbrev pub too_long : WriteRefusal → WithRefusal
too_long (unwritten.TooLong size) = refusals.TooLong size
