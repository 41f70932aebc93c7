use Rattle.std.proofs.Common.{◌≡◌, ◌∙◌, ◌<◌, ◌-◌, [], List, ℕ, length, take, drop, get_or, vec_len, rules, sym, ap, arith}
use Rattle.std.specs.Prelude.{slice_index}
use Rattle.ksi_disk.specs.Cuts.{begin_of}
use Rattle.ksi_disk.proofs.Cutting.{length_cut, within, at_cut, default_same}
use Rattle.ksi_disk.proofs.records.Records.get.Goals as goal

pub index-end-requires : goal.index-end-requires
index-end-requires c =
    let inside = c.self.inside in
    let count : length inside.ends.items ≡ vec_len inside.ends = search rules in
    omega (arith, c.requires, ap (λ (l : List (List ℕ)). length l) c.self.view_is, length_cut inside.bytes.items 0 inside.ends.items, count)

pub begin-requires : goal.begin-requires
begin-requires c =
    let inside = c.self.inside in
    omega (arith, c.requires, ap (λ (l : List (List ℕ)). length l) c.self.view_is, length_cut inside.bytes.items 0 inside.ends.items, ap (λ (l : List ℕ). length l) c.deref-2.ensures.value)

pub piece-requires-clause-rising : goal.piece-requires-clause-rising
piece-requires-clause-rising c =
    let inside = c.self.inside in
    let k = c.args.number in
    let there : k < length inside.ends.items = omega (arith, c.requires, ap (λ (l : List (List ℕ)). length l) c.self.view_is, length_cut inside.bytes.items 0 inside.ends.items) in
    let end : c.index-end.result.now ≡ slice_index inside.ends.items k = c.index-end.ensures ∙ default_same inside.ends.items k c.index-end.result.now there in
    let start : c.begin.result ≡ begin_of 0 inside.ends.items k = c.begin.ensures ∙ ap (λ (l : List ℕ). begin_of 0 l k) c.deref-2.ensures.value in
    omega (arith, end, start, (within 0 (length inside.bytes.items) inside.ends.items k c.self.invariant there).rising)

pub piece-requires-clause-within : goal.piece-requires-clause-within
piece-requires-clause-within c =
    let inside = c.self.inside in
    let k = c.args.number in
    let there : k < length inside.ends.items = omega (arith, c.requires, ap (λ (l : List (List ℕ)). length l) c.self.view_is, length_cut inside.bytes.items 0 inside.ends.items) in
    let end : c.index-end.result.now ≡ slice_index inside.ends.items k = c.index-end.ensures ∙ default_same inside.ends.items k c.index-end.result.now there in
    omega (arith, end, ap (λ (l : List ℕ). length l) c.deref.ensures.value, (within 0 (length inside.bytes.items) inside.ends.items k c.self.invariant there).within)

pub returns : goal.returns
returns c = λ other.
    let inside = c.self.inside in
    let k = c.args.number in
    let there : k < length inside.ends.items = omega (arith, c.requires, ap (λ (l : List (List ℕ)). length l) c.self.view_is, length_cut inside.bytes.items 0 inside.ends.items) in
    let end : c.index-end.result.now ≡ slice_index inside.ends.items k = c.index-end.ensures ∙ default_same inside.ends.items k c.index-end.result.now there in
    let start : c.begin.result ≡ begin_of 0 inside.ends.items k = c.begin.ensures ∙ ap (λ (l : List ℕ). begin_of 0 l k) c.deref-2.ensures.value in
    c.piece.ensures ∙ ap (λ (l : List ℕ). take (c.index-end.result.now - c.begin.result) (drop c.begin.result l)) c.deref.ensures.value
    ∙ ap (λ (n : ℕ). take (n - c.begin.result) (drop c.begin.result inside.bytes.items)) end
    ∙ ap (λ (n : ℕ). take (slice_index inside.ends.items k - n) (drop n inside.bytes.items)) start
    ∙ sym (at_cut inside.bytes.items 0 inside.ends.items k other there)
    ∙ ap (λ (l : List (List ℕ)). get_or l k other) c.self.view_is
