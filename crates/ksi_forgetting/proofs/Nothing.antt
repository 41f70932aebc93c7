-- A sequence of reads writes nothing.
use Rattle.std.proofs.Common.{◌≡◌, ◌∙◌, inl, inr, ℕ, List, Option, arith}
use Rattle.ksi_disk.specs.Costs.{Meter}
use Rattle.ksi_disk.specs.Images.{AddsNone, Elapses}
use Rattle.ksi_disk.specs.Reads.{WroteNothing}

module _ {D : Type 0} (images : D → List ℕ → Type 0) (moment : D → ℕ) (images_since : D → ℕ → List ℕ → Type 0) (meter : D → Option Meter)
    (only_now : (disk : D) (image : List ℕ) → images_since disk (moment disk) image → images disk image) where
  pub one_read : (a b : D) → AddsNone (images a) (images b) → Elapses (moment a) (moment b) (images_since a) (images_since b) (images b) → meter b ≡ meter a → WroteNothing images moment images_since meter a b
  one_read a b no_image time unspent = record {
    no_image = no_image;
    any_moment = record {
      later = time.later;
      each = λ image since. elim (time.nothing_else (moment a) image (omega arith) since) [
        | inl past ↦ only_now a image past
        | inr now ↦ no_image image now
      ];
      before = λ early image le since. elim (time.nothing_else early image le since) [
        | inl past ↦ inl past
        | inr now ↦ inr (no_image image now)
      ];
    };
    unspent = unspent;
  }

  pub nothing_then : (a b c : D) → WroteNothing images moment images_since meter a b → WroteNothing images moment images_since meter b c → WroteNothing images moment images_since meter a c
  nothing_then a b c one other = record {
    no_image = λ image now. one.no_image image (other.no_image image now);
    any_moment = record {
      later = omega (arith, one.any_moment.later, other.any_moment.later);
      each = λ image since. elim (other.any_moment.before (moment a) image one.any_moment.later since) [
        | inl past ↦ one.any_moment.each image past
        | inr now ↦ one.no_image image now
      ];
      before = λ early image le since. elim (other.any_moment.before early image (omega (arith, le, one.any_moment.later)) since) [
        | inl past ↦ one.any_moment.before early image le past
        | inr now ↦ inr (one.no_image image now)
      ];
    };
    unspent = other.unspent ∙ one.unspent;
  }
