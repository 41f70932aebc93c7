use Rattle.std.proofs.Common.{◌≡◌, ◌∙◌, ◌+◌, List, ℕ, IfSome, ap, refl, sym, subst}
use Rattle.ksi_records.specs.Blocks.{lines_in}
use Rattle.ksi_records.specs.declared.blocks.place.Place.{Place}
use Rattle.std.specs.Io.Iter.{u64_saturate}
use Rattle.ksi_records.specs.declared.node.entry.Next.{Next}
use Rattle.ksi_records.specs.declared.node.runs.Held.{Held}
use Rattle.ksi_records.specs.Node.Runs.{first_state, state_behind}
use Rattle.ksi_records.specs.Node.Steps.{IsHeld, IsNext}
use Rattle.ksi_records.specs.Node.Verdicts.{first_place, place_behind}
use Rattle.ksi_records.proofs.NodeStreamLemmas.{IsSoFar, agrees, differs, goes_on, is_taken, refuses, starts}
use Rattle.ksi_records.proofs.node.stream.entry_by_entry.Goals as goal

pub entries-init : goal.entries-init
entries-init g c = record {
  so_far = (
    first_state c.args.plan.now c.args.me,
    c.requires.first,
    starts g.C.Compress.image c.args.plan.now c.args.me (g.S.Read.remaining c.args.log.now) first_place refl,
  );
}

pub hold-requires-clause-node : goal.hold-requires-clause-node
hold-requires-clause-node g c = (c.entries.invariant.so_far.0, c.entries.invariant.so_far.1)

pub returns-in-Refused : goal.returns-in-Refused
returns-in-Refused g c =
    let now = g.S.Read.remaining c.entries.log in
    let later = g.S.Read.remaining c.next_entry.new.log in
    let so = c.entries.invariant.so_far in
    let is = subst (λ (next : Next). IsNext c.args.plan.now c.args.me now later c.next_entry.new.line.items c.next_entry.new.block.items next) c.in-Refused.is c.in_ok-next.ensures.next in
    refuses g.C.Compress.image c.args.plan.now c.args.me (g.S.Read.remaining c.args.log.now) now so.0 c.entries.place c.in-Refused.fault so.2 is

pub returns-in-End : goal.returns-in-End
returns-in-End g c =
    let now = g.S.Read.remaining c.entries.log in
    let later = g.S.Read.remaining c.next_entry.new.log in
    let so = c.entries.invariant.so_far in
    let is = subst (λ (next : Next). IsNext c.args.plan.now c.args.me now later c.next_entry.new.line.items c.next_entry.new.block.items next) c.in-End.is c.in_ok-next.ensures.next in
    agrees g.C.Compress.image c.args.plan.now c.args.me (g.S.Read.remaining c.args.log.now) now so.0 c.entries.place so.2 is

pub returns-in-Differs : goal.returns-in-Differs
returns-in-Differs g c =
    let image = g.C.Compress.image in
    let plan = c.args.plan.now in
    let me = c.args.me in
    let now = g.S.Read.remaining c.entries.log in
    let later = g.S.Read.remaining c.next_entry.new.log in
    let line = c.next_entry.new.line.items in
    let block = c.next_entry.new.block.items in
    let head = c.in-Entry.head in
    let so = c.entries.invariant.so_far in
    let is = subst (λ (next : Next). IsNext plan me now later line block next) c.in-Entry.is c.in_ok-next.ensures.next in
    let of_block = subst (λ (text : List ℕ). IsHeld image plan me so.0 head text c.hold.new.self c.in_ok-held.held) c.deref.ensures.value (c.in_ok-held.ensures so.0 so.1) in
    let held = subst (λ (held : Held). IsHeld image plan me so.0 head block c.hold.new.self held) c.in-Differs.is of_block in
    differs image plan me (g.S.Read.remaining c.args.log.now) now later so.0 c.entries.place line head block so.2 is held.0 held.1

pub returns-in-Taken : goal.returns-in-Taken
returns-in-Taken g c =
    let image = g.C.Compress.image in
    let plan = c.args.plan.now in
    let me = c.args.me in
    let now = g.S.Read.remaining c.entries.log in
    let later = g.S.Read.remaining c.next_entry.new.log in
    let line = c.next_entry.new.line.items in
    let block = c.next_entry.new.block.items in
    let head = c.in-Entry.head in
    let so = c.entries.invariant.so_far in
    let is = subst (λ (next : Next). IsNext plan me now later line block next) c.in-Entry.is c.in_ok-next.ensures.next in
    let of_block = subst (λ (text : List ℕ). IsHeld image plan me so.0 head text c.hold.new.self c.in_ok-held.held) c.deref.ensures.value (c.in_ok-held.ensures so.0 so.1) in
    let held = subst (λ (held : Held). IsHeld image plan me so.0 head block c.hold.new.self held) c.in-Taken.is of_block in
    is_taken image plan me (g.S.Read.remaining c.args.log.now) now later so.0 c.entries.place line head block so.2 is held

pub entries-preserved : goal.entries-preserved
entries-preserved g c =
    let image = g.C.Compress.image in
    let plan = c.args.plan.now in
    let me = c.args.me in
    let first = g.S.Read.remaining c.args.log.now in
    let now = g.S.Read.remaining c.entries.log in
    let later = g.S.Read.remaining c.next_entry.new.log in
    let line = c.next_entry.new.line.items in
    let block = c.next_entry.new.block.items in
    let head = c.in-Entry.head in
    let place = c.entries.place in
    let so = c.entries.invariant.so_far in
    let is = subst (λ (next : Next). IsNext plan me now later line block next) c.in-Entry.is c.in_ok-next.ensures.next in
    let of_block = subst (λ (text : List ℕ). IsHeld image plan me so.0 head text c.hold.new.self c.in_ok-held.held) c.deref.ensures.value (c.in_ok-held.ensures so.0 so.1) in
    let held = subst (λ (held : Held). IsHeld image plan me so.0 head block c.hold.new.self held) c.in-Told.is of_block in
    let goes = goes_on image plan me first now later so.0 place line head block so.2 is held.0 held.1 in
    let count = c.behind-place.ensures.entry in
    let lines = c.behind-place.ensures.line ∙ ap (λ (text : List ℕ). u64_saturate (u64_saturate (place.line + 1) + lines_in text)) c.deref-in-entries.ensures.value in
    let same : place_behind place block ≡ c.behind-place.result = λ i. record { entry = sym count i; line = sym lines i } in
    record {
      so_far = (
        state_behind image plan so.0 head,
        held.2,
        subst (λ (place : Place). IfSome first (λ text. IsSoFar image plan me text later (state_behind image plan so.0 head) place)) same goes,
      );
    }
