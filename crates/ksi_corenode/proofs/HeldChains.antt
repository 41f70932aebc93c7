-- The chain over the calendar of what is held.
use Rattle.std.proofs.Common.{◌≡◌, ℕ, ◌+◌, ◌<◌, ◌≤◌, List, length, Some, None, sym, ap, ◌∙◌, arith}
use Rattle.ksi_split.specs.declared.tree_link.TreeLink.{TreeLink}
use Rattle.ksi_calendar.specs.Calendar.{Seconds, calendar_leaf, calendar_path, calendar_root, root_to}
use Rattle.ksi_calendar.specs.Covered.{Roots, covered_path, covered_root, first_missing, second_leaf}
use Rattle.ksi_signature.specs.declared.answer.Answer.TheVariants.{Published}
use Rattle.ksi_corenode.specs.Chains.{chain_over}
use Rattle.ksi_corenode.specs.Rows.{publish_answer, publish_where}
use Rattle.ksi_corenode.specs.Settled.{IsCalendarOf}
use Rattle.ksi_corenode.proofs.Kept.{kept_leaves, published_root}

module _ (image : List ℕ → List ℕ) (held : Roots) (start t p : ℕ) where
  -- the links and the root of the calendar of all that is held
  pub chain_kept : (calendar : Seconds) (links : List (TreeLink (List ℕ))) (root : List ℕ) → IsCalendarOf held start calendar → start ≤ p → p < calendar.start + length calendar.roots →
      first_missing held start p ≡ None →
      (((u : ℕ) → u ≤ p → calendar_leaf calendar u ≡ second_leaf held start u) → calendar_root image calendar p ≡ covered_root image held start p) →
      (((u : ℕ) → u ≤ p → calendar_leaf calendar u ≡ second_leaf held start u) → calendar_path image calendar t p ≡ covered_path image held start t p) →
      root_to image calendar p ≡ Some root → links ≡ calendar_path image calendar t p →
      Some (record { links = links; root = root }) ≡ chain_over image held start t p (first_missing held start p)
  unfolding publish_answer
  chain_kept calendar links root kept from inside none own_root own_path rooted along =
      let covered : p < start + length calendar.roots = omega (arith, inside, kept.begins) in
      let leaves = kept_leaves held start calendar kept p covered in
      let said : Published root ≡ Published (covered_root image held start p) =
      published_root image held start p calendar root kept from inside none own_root rooted ∙ ap (publish_where image held start p) none in
      let same : root ≡ covered_root image held start p = cc in
      let path : links ≡ covered_path image held start t p = along ∙ own_path leaves in
      (λ i. Some (record { links = path i; root = same i })) ∙ ap (chain_over image held start t p) (sym none)
