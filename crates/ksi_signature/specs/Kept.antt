-- The invariants of the types of a signature's parts: counts, lengths, times, and that imprints are imprints.
use Rattle.std.specs.Prelude.{◌^◌, ◌<◌, ◌≤◌, length, IfSome}
use Rattle.std.specs.List.{AllByRecursion}
use Rattle.ksi_imprint.specs.Imprints.{IsImprint}
use Rattle.ksi_aggtree.specs.declared.chains.link.Link.{Link}
use Rattle.ksi_aggtree.specs.declared.chains.link.Sibling.{Sibling}
use Rattle.ksi_aggtree.specs.declared.chains.link.Sibling.TheVariants as siblings
use Rattle.ksi_signature.specs.Values.{Aggregation, Calendar, Publishing, AreLinks, AreChains}
use Rattle.ksi_signature.specs.declared.signature.Signature.{Signature}

abbrev pub HasImprint : Sibling → Type 0
HasImprint (siblings.Imprint imprint) = IsImprint imprint
HasImprint (siblings.Legacy bytes) = Unit {0}
HasImprint (siblings.Metadata bytes) = Unit {0}

pub record IsLink (link : Link) : Type 0 where
  pub correction : link.correction < 2 ^ 8
  pub sibling : HasImprint link.sibling

pub record IsAggregation (chain : Aggregation) : Type 0 where
  pub time : chain.time < 2 ^ 63
  pub some : 0 < length chain.index
  pub index : AllByRecursion (λ part. part < 2 ^ 64) chain.index
  pub input : IsImprint chain.input
  pub limits : AreLinks chain.links
  pub links : AllByRecursion IsLink chain.links

pub record IsCalendar (chain : Calendar) : Type 0 where
  pub publication : chain.publication < 2 ^ 63
  pub time : chain.time < 2 ^ 63
  pub input : IsImprint chain.input
  pub count : length chain.links ≤ 63
  pub links : AllByRecursion (λ link. IsImprint link.sibling) chain.links

pub record IsPublishing (published : Publishing) : Type 0 where
  pub time : published.time < 2 ^ 63
  pub hash : IsImprint published.hash

pub record IsLimited (signature : Signature) : Type 0 where
  pub limits : AreChains signature.chains
  pub chains : AllByRecursion IsAggregation signature.chains
  pub calendar : IfSome signature.calendar IsCalendar
  pub publication : IfSome signature.publication IsPublishing

-- facts about a chain that is read from bytes
pub record IsLent (chain : Aggregation) : Type 0 where
  pub time : chain.time < 2 ^ 63
  pub some : 0 < length chain.index
  pub input : IsImprint chain.input
  pub limits : AreLinks chain.links
  pub links : AllByRecursion IsLink chain.links
