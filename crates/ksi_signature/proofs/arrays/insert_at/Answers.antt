use Rattle.std.proofs.Common.{◌≡◌, ℕ, ◌+◌, suc, take, slice_set, subst, ◌∙◌, arith}
use Rattle.std.specs.Prelude.{insert}
use Rattle.ksi_signature.proofs.Inserted.{insert_next, put_among}
use Rattle.ksi_signature.proofs.arrays.insert_at.Goals as goal

pub loop-k-preserved : goal.loop-k-preserved
loop-k-preserved g c =
    let one : suc c.loop-k.k ≡ c.loop-k.k + 1 = omega arith in
    let same = c.loop-k.auto.items in
    let lt = c.loop-k-test.true in
    let room = c.requires.room in
    subst (λ (n : ℕ). insert (slice_set c.loop-k.items c.loop-k.k c.loop-k.carried) n c.index-items-k.result ≡ insert c.args.items.now c.args.place c.args.item) one
    (insert_next c.loop-k.k c.loop-k.items c.loop-k.carried c.index-items-k.result (omega (arith, same, lt, room)) c.index-items-k.is ∙ c.loop-k.invariant)

pub returns : goal.returns
returns g c =
    let one : suc c.args.count ≡ c.args.count + 1 = omega arith in
    let past = c.loop-k-test.false in
    let low = c.loop-k.auto.k-end c.requires.within in
    let end : c.loop-k.k ≡ c.args.count = omega (arith, past, low) in
    subst (λ (n : ℕ). take n (slice_set c.loop-k.items c.args.count c.loop-k.carried) ≡ insert (take c.args.count c.args.items.now) c.args.place c.args.item) one
    (put_among c.args.place c.args.count c.args.items.now c.loop-k.items c.args.item c.loop-k.carried c.requires.within c.requires.room c.loop-k.auto.items
    (subst (λ (n : ℕ). insert c.loop-k.items n c.loop-k.carried ≡ insert c.args.items.now c.args.place c.args.item) end c.loop-k.invariant))
