-- When a row gives which answer, in words.
use Rattle.std.proofs.Common.{◌≡◌, ◌≢◌, ◌∙◌, ◌⊎◌, ℕ, ◌≤◌, ◌↔◌, ◌&&◌, Bool, true, false, not, List, Option, Some, None, refl, sym, ap, arith, inl, inr}
use Rattle.std.specs.Prelude.{◌==◌, if◌then◌else◌, IsSome}
use Rattle.std.specs.Bool.{Decides}
use Rattle.std.specs.Str.{bytes_eq}
use Rattle.std.proofs.lemmas.Bool.{cond_both, eqb-true}
use Rattle.std.proofs.lemmas.Slice.Eq.{bytes_eq-Decides}
use Rattle.ksi_imprint.specs.Imprints.{zero_imprint}
use Rattle.ksi_aggtree.specs.declared.entries.Entry.{Entry}
use Rattle.ksi_aggtree.specs.Entries.{candidate_of}
use Rattle.ksi_signature.specs.declared.answer.Answer.{Answer}
use Rattle.ksi_signature.specs.declared.answer.Answer.TheVariants.{Undecided, NotMine}
use Rattle.ksi_corenode.specs.SecondState.{SecondState}
use Rattle.ksi_corenode.specs.Turns.{Turn}
use Rattle.ksi_calendar.specs.Covered.{Roots, IsFirstMissing, first_missing}
use Rattle.ksi_corenode.specs.Rows.{is_mine, respond_row, respond_where, IsNotMine, publish_answer, publish_where}
use Rattle.ksi_corenode.specs.CoreState.{CoreState, state_of}

-- what holds of a second answer holds of an equal one
pub same_answer : (a b answer : Answer) {P : Type 0} → a ≡ b → (b ≡ answer) ↔ P → (a ≡ answer) ↔ P
same_answer a b answer is words = (λ e. words.0 (sym is ∙ e), λ p. is ∙ words.1 p)

-- a second that stays, said of each second
pub stays : (core : CoreState) (second : ℕ) (after : SecondState) → after ≡ state_of core second → (t : ℕ) → state_of core t ≡ (if t == second then after else state_of core t)
stays core second after is t = cond_both (t == second) after (state_of core t) (λ (s : SecondState). state_of core t ≡ s)
    (λ same. ap (state_of core) (eqb-true t second same) ∙ sym is) (λ _. refl)

-- the law of the first missing second
pub record FirstMissing : Type 0 where
  pub some : (roots : Roots) (start last second : ℕ) → (first_missing roots start last ≡ Some second) ↔ IsFirstMissing roots start last second
  pub none : (roots : Roots) (start last : ℕ) → (first_missing roots start last ≡ None) ↔ ((t : ℕ) → start ≤ t → t ≤ last → IsSome (roots t))

module _ (image : List ℕ → List ℕ) (held : Roots) where
  pub publish_undecided : (law : FirstMissing) (start p s : ℕ) → (publish_answer image held start p ≡ Undecided s) ↔ IsFirstMissing held start p s
  unfolding publish_answer
  publish_undecided law start p s = by (first_missing held start p) refl
    where
      by : (missing : Option ℕ) → first_missing held start p ≡ missing → (publish_where image held start p missing ≡ Undecided s) ↔ IsFirstMissing held start p s
      by (Some m) is =
          (λ e. (law.some held start p s).0 (is ∙ ap Some (cc e)), λ r. let same : m ≡ s = cc (sym is ∙ (law.some held start p s).1 r) in ap Undecided same)
      by None is = (λ e. absurd (cc e), λ r. absurd (cc (sym is ∙ (law.some held start p s).1 r)))

  module _ (start second : ℕ) (s : SecondState) where
    -- nothing changes
    pub respond_after : (respond_row image held start second s).after ≡ s
    unfolding respond_row
    respond_after = by s.sealed (first_missing held start second) (held second)
      where
        by : (sealed : Option (List Entry)) (missing : Option ℕ) (root : Option (List ℕ)) → (respond_where image held start second sealed missing root s).after ≡ s
        by None missing root = refl
        by (Some entries) (Some missing) root = refl
        by (Some entries) None None = refl
        by (Some entries) None (Some root) = cond_both (is_mine image entries root) _ _ (λ (turn : Turn). turn.after ≡ s) (λ _. refl) (λ _. refl)

    pub respond_undecided : (law : FirstMissing) → start ≤ second → (t : ℕ) → ((respond_row image held start second s).answer ≡ Undecided t) ↔ (IsSome s.sealed × IsFirstMissing held start second t)
    unfolding respond_row
    respond_undecided law from t = by s.sealed (first_missing held start second) (held second) refl refl
      where
        by : (sealed : Option (List Entry)) (missing : Option ℕ) (root : Option (List ℕ)) → first_missing held start second ≡ missing → held second ≡ root →
            ((respond_where image held start second sealed missing root s).answer ≡ Undecided t) ↔ (IsSome sealed × IsFirstMissing held start second t)
        by None missing root is holds = (λ e. absurd (cc e), λ r. absurd (cc r.0))
        by (Some entries) (Some m) root is holds =
            (λ e. (refl, (law.some held start second t).0 (is ∙ ap Some (cc e))), λ r. let same : m ≡ t = cc (sym is ∙ (law.some held start second t).1 r.1) in ap Undecided same)
        by (Some entries) None None is holds = absurd (cc ((law.none held start second).0 is second from (omega arith), holds))
        by (Some entries) None (Some root) is holds = cond_both (is_mine image entries root) _ _ (λ (turn : Turn). (turn.answer ≡ Undecided t) ↔ (IsSome (Some entries) × IsFirstMissing held start second t))
            (λ _. (λ e. absurd (cc e), λ r. absurd (cc (sym is ∙ (law.some held start second t).1 r.1))))
            (λ _. (λ e. absurd (cc e), λ r. absurd (cc (sym is ∙ (law.some held start second t).1 r.1))))

    -- when a root is not the core's own candidate, or a missed second's
    mine_not : (entries : List Entry) (root : List ℕ) → (is_mine image entries root ≡ false) ↔ ((root ≢ candidate_of image entries) ⊎ (root ≡ zero_imprint))
    mine_not entries root = by (bytes_eq (candidate_of image entries) root) (bytes_eq root zero_imprint) refl refl
      where
        mine : Decides (bytes_eq (candidate_of image entries) root) (candidate_of image entries ≡ root)
        mine = bytes_eq-Decides (candidate_of image entries) root

        zero : Decides (bytes_eq root zero_imprint) (root ≡ zero_imprint)
        zero = bytes_eq-Decides root zero_imprint

        by : (same missed : Bool) → bytes_eq (candidate_of image entries) root ≡ same → bytes_eq root zero_imprint ≡ missed →
            ((same && not missed) ≡ false) ↔ ((root ≢ candidate_of image entries) ⊎ (root ≡ zero_imprint))
        by false missed is was = (λ _. inl (λ e. absurd (cc (sym is ∙ mine.1 (sym e)))), λ _. refl)
        by true true is was = (λ _. inr (zero.0 was), λ _. refl)
        by true false is was = (
          λ e. absurd (cc e),
          λ r. elim r [
            | inl other ↦ absurd (other (sym (mine.0 is)))
            | inr none ↦ absurd (cc (sym was ∙ zero.1 none))
          ],
        )

    pub respond_not_mine : (law : FirstMissing) → start ≤ second → ((respond_row image held start second s).answer ≡ NotMine) ↔ IsNotMine image held start second s
    unfolding respond_row
    respond_not_mine law from = by s.sealed (first_missing held start second) (held second) refl refl refl
      where
        by : (sealed : Option (List Entry)) (missing : Option ℕ) (root : Option (List ℕ)) → s.sealed ≡ sealed → first_missing held start second ≡ missing → held second ≡ root →
            ((respond_where image held start second sealed missing root s).answer ≡ NotMine) ↔ IsNotMine image held start second s
        by None missing root seals is holds = (λ e. absurd (cc e), λ r. absurd (cc (sym seals ∙ r.sealed)))
        by (Some entries) (Some m) root seals is holds = (λ e. absurd (cc e), λ r. absurd (cc (sym is ∙ (law.none held start second).1 r.covered.each)))
        by (Some entries) None None seals is holds = (λ e. absurd (cc e), λ r. absurd (cc (sym holds ∙ r.holds)))
        by (Some entries) None (Some root) seals is holds =
            cond_both (is_mine image entries root) _ _ (λ (turn : Turn). (turn.answer ≡ NotMine) ↔ IsNotMine image held start second s)
            (λ mine. (λ e. absurd (cc e), λ r. absurd (cc (sym mine ∙ not_own r))))
            (λ other. (λ _. record { entries = entries; sealed = seals; covered = record { from = from; each = (law.none held start second).0 is }; root = root; holds = holds; other = (mine_not entries root).0 other }, λ _. refl))
          where
            not_own : IsNotMine image held start second s → is_mine image entries root ≡ false
            not_own r =
                let same_entries : r.entries ≡ entries = cc (sym seals ∙ r.sealed) in
                let same_root : r.root ≡ root = cc (sym holds ∙ r.holds) in
                ap (λ (e : List Entry). is_mine image e root) (sym same_entries) ∙ ap (λ (x : List ℕ). is_mine image r.entries x) (sym same_root) ∙ (mine_not r.entries r.root).1 r.other
