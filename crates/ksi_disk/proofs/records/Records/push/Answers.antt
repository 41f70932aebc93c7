use Rattle.std.proofs.Common.{◌≡◌, ◌∙◌, ◌+◌, ◌++◌, ◌∷◌, [], List, ℕ, length, vec_len, rules, sym, ap, subst, arith, length-append}
use Rattle.ksi_disk.specs.Cuts.{AreEnds, cut}
use Rattle.ksi_disk.proofs.Cutting.{cut_more, ends_more}
use Rattle.ksi_disk.proofs.records.Records.push.Goals as goal

pub invariant_of-self-2 : goal.invariant_of-self-2
invariant_of-self-2 c =
    let inside = c.self.inside in
    let bytes : c.extend_from_slice.new.self.items ≡ inside.bytes.items ++ c.args.content.now = c.in_ok-extend_from_slice.ensures.items in
    let longer : length c.extend_from_slice.new.self.items ≡ length inside.bytes.items + length c.args.content.now = ap (λ (l : List ℕ). length l) bytes ∙ length-append inside.bytes.items c.args.content.now in
    let count : vec_len c.extend_from_slice.new.self ≡ length c.extend_from_slice.new.self.items = search rules in
    let ends : c.push_reserved.new.self.items ≡ inside.ends.items ++ length c.extend_from_slice.new.self.items ∷ [] =
    c.push_reserved.ensures.items ∙ ap (λ (l : List ℕ). l ++ c.len.result ∷ []) c.reserve.ensures.items ∙ ap (λ (n : ℕ). inside.ends.items ++ n ∷ []) (c.len.ensures ∙ count) in
    subst (λ (l : List ℕ). AreEnds 0 (length c.extend_from_slice.new.self.items) l) (sym ends)
    (ends_more 0 (length inside.bytes.items) (length c.extend_from_slice.new.self.items) inside.ends.items (omega (arith, longer)) c.self.invariant)

pub returns-clause-added : goal.returns-clause-added
returns-clause-added c =
    let inside = c.self.inside in
    let bytes : c.extend_from_slice.new.self.items ≡ inside.bytes.items ++ c.args.content.now = c.in_ok-extend_from_slice.ensures.items in
    let longer : length c.extend_from_slice.new.self.items ≡ length inside.bytes.items + length c.args.content.now = ap (λ (l : List ℕ). length l) bytes ∙ length-append inside.bytes.items c.args.content.now in
    let count : vec_len c.extend_from_slice.new.self ≡ length c.extend_from_slice.new.self.items = search rules in
    let ends : c.push_reserved.new.self.items ≡ inside.ends.items ++ (length inside.bytes.items + length c.args.content.now) ∷ [] =
    c.push_reserved.ensures.items ∙ ap (λ (l : List ℕ). l ++ c.len.result ∷ []) c.reserve.ensures.items ∙ ap (λ (n : ℕ). inside.ends.items ++ n ∷ []) (c.len.ensures ∙ count ∙ longer) in
    ap (λ (l : List ℕ). cut l 0 c.push_reserved.new.self.items) bytes ∙ ap (λ (l : List ℕ). cut (inside.bytes.items ++ c.args.content.now) 0 l) ends
    ∙ cut_more inside.bytes.items c.args.content.now 0 inside.ends.items c.self.invariant
    ∙ ap (λ (l : List (List ℕ)). l ++ c.args.content.now ∷ []) c.self.view_is
