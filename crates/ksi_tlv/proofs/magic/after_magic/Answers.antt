use Rattle.std.proofs.Common.{◌≡◌, ◌≢◌, ℕ, ◌++◌, List, Option, Some, None, IfSome, Bor}
use Rattle.std.specs.Prelude.{MatchOption}
use Rattle.std.proofs.lemmas.Bool.Decides.{Decides-eqb}
use Rattle.std.proofs.lemmas.Slice.Eq.{strip_prefix_is}
use Rattle.ksi_tlv.proofs.magic.after_magic.Goals as goal

abbrev Stripped : Option (Bor (List ℕ)) → (bytes magic : List ℕ) → Type 0
Stripped r bytes magic = MatchOption r ((rest : List ℕ) → bytes ≢ magic ++ rest) (λ x. bytes ≡ magic ++ x.now)

some_of : (r : Option (Bor (List ℕ))) (bytes magic : List ℕ) → Stripped r bytes magic → IfSome r (λ rest. bytes ≡ magic ++ rest.now)
some_of None bytes magic h = tt
some_of (Some x) bytes magic h = h

none_of : (r : Option (Bor (List ℕ))) (bytes magic : List ℕ) → Stripped r bytes magic → r ≡ None → (rest : List ℕ) → bytes ≡ magic ++ rest → ⊥
none_of None bytes magic h e rest is = h rest is
none_of (Some x) bytes magic h e rest is = absurd cc

pub returns-clause-some : goal.returns-clause-some
returns-clause-some c = some_of c.strip_prefix.result c.args.bytes.now c.args.magic.now (strip_prefix_is Decides-eqb c.args.bytes.now c.args.magic.now c.strip_prefix.result c.strip_prefix.ensures.cases)

pub returns-clause-none : goal.returns-clause-none
returns-clause-none c = none_of c.strip_prefix.result c.args.bytes.now c.args.magic.now (strip_prefix_is Decides-eqb c.args.bytes.now c.args.magic.now c.strip_prefix.result c.strip_prefix.ensures.cases)
