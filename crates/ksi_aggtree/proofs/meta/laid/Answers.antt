use Rattle.std.proofs.Common.{List, ◌∷◌, [], ◌++◌, ◌+◌, ◌-◌, length, drop, replicate, ap, ◌∙◌, ℕ, ◌≡◌, arith}
use Rattle.std.proofs.lemmas.List.{drop-replicate}
use Rattle.ksi_aggtree.proofs.meta.laid.Goals as goal

pub returns : goal.returns
returns c =
    let front = c.args.front.now in
    let name = c.args.name.now in
    let header : List ℕ = 1 ∷ (length name + 1) ∷ [] in
    let behind = c.split_at_mut-letters.result.1.now in
    let rest : behind ≡ replicate (70 - length front - 2 - length name) 0 =
    c.split_at_mut-letters.ensures.back
    ∙ ap (drop (length name)) (c.split_at_mut-header.ensures.back
    ∙ ap (drop 2) (c.split_at_mut-padding.ensures.back ∙ drop-replicate (length front) 70 0)
    ∙ drop-replicate 2 (70 - length front) 0)
    ∙ drop-replicate (length name) (70 - length front - 2) 0 in
    let zeros : 70 - length front - 2 - length name ≡ 68 - length front - length name = omega arith in
    ap (λ (bytes : List ℕ). bytes ++ (c.copy_from_slice-2.new.self ++ (c.copy_from_slice-3.new.self ++ behind))) c.copy_from_slice.ensures.after
    ∙ ap (λ (bytes : List ℕ). front ++ (bytes ++ (c.copy_from_slice-3.new.self ++ behind))) c.copy_from_slice-2.ensures.after
    ∙ ap (λ (bytes : List ℕ). front ++ (header ++ (bytes ++ behind))) c.copy_from_slice-3.ensures.after
    ∙ ap (λ (bytes : List ℕ). front ++ (header ++ (name ++ bytes))) (rest ∙ ap (λ n. replicate n 0) zeros)
