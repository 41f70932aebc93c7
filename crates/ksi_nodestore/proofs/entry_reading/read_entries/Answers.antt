use Rattle.std.specs.List.{All, flat_map}
use Rattle.std.proofs.Common.{rules, ◌≡◌, ◌∙◌, ℕ, suc, ◌-◌, List, [], ◌∷◌, Option, Some, ap, sym, subst, arith, length, drop, length-append}
use Rattle.std.proofs.lemmas.List.Elements.{All-push}
use Rattle.ksi_aggtree.specs.declared.entries.Entry.{Entry}
use Rattle.ksi_nodestore.specs.Texts.{entry_text, IsSpelled}
use Rattle.ksi_nodestore.specs.TextReading.{entries_at, IsMore}
use Rattle.ksi_nodestore.proofs.Sound.{prepended, stepped, text_more, ended}
use Rattle.ksi_nodestore.proofs.entry_reading.read_entries.Goals as goal

pub reading-preserved : goal.reading-preserved
reading-preserved c =
    let bytes = c.args.bytes.now in
    let place = c.reading.place in
    let old = c.reading.entries.items in
    let new = c.read_more.new.entries.items in
    let next = c.in-Some.next in
    let left = c.reading.left in
    let more : IsMore bytes place old new (Some next) = subst (λ (f : Option ℕ). IsMore bytes place old new f) c.in-Some.is c.in_ok-read_more.ensures in
    let one_less : left ≡ suc (left - 1) = omega arith in
    let new_is = more.4 in
    record {
      so_far = c.reading.invariant.so_far ∙ stepped left (left - 1) place next bytes old more.0 one_less more.5 more.1 ∙ ap (λ (es : List Entry). prepended es (entries_at (left - 1) (drop next bytes))) (sym new_is);
      size = omega (arith, ap length new_is, length-append old (more.0 ∷ []));
      each = subst (All IsSpelled) (sym new_is) (All-push IsSpelled old more.0 c.reading.invariant.each more.2);
      text = ap (λ (es : List Entry). flat_map entry_text es) new_is ∙ text_more place next bytes old more.0 c.reading.invariant.text more.5 more.3 c.reading.invariant.within;
      within = more.6;
    }

pub returns-clause-read : goal.returns-clause-read
returns-clause-read c =
    let bytes = c.args.bytes.now in
    let entries = c.reading.entries.items in
    let none_left : c.reading.left ≡ 0 = omega arith in
    c.reading.invariant.so_far ∙ ap (λ (n : ℕ). prepended entries (entries_at n (drop c.reading.place bytes))) none_left ∙ ended c.reading.place bytes entries (omega arith)

pub returns-then-place-bytes-clause-read : goal.returns-then-place-bytes-clause-read
returns-then-place-bytes-clause-read c = search rules

pub returns-then-place-bytes-clause-sound : goal.returns-then-place-bytes-clause-sound
returns-then-place-bytes-clause-sound c = search rules
