use Rattle.std.specs.List.{All, flat_map}
use Rattle.std.proofs.Common.{◌≡◌, ◌+◌, ◌∙◌, ℕ, List, [], ◌∷◌, ◌++◌, ap, sym, subst, arith, take}
use Rattle.std.proofs.lemmas.List.{take_more, flat_map_more}
use Rattle.std.proofs.lemmas.List.Elements.{All-push}
use Rattle.ksi_aggtree.specs.declared.entries.Entry.{Entry}
use Rattle.ksi_nodestore.specs.Texts.{entry_text, IsSpelled}
use Rattle.ksi_nodestore.proofs.writing.put_entries.Goals as goal

pub writing-preserved : goal.writing-preserved
writing-preserved c =
    let entries = c.args.entries.now in
    let k = c.writing.k in
    let entry = c.index-entries-k.result in
    let old = c.args.record_.now.content in
    let taken : take (k + 1) entries ≡ take k entries ++ entry ∷ [] = take_more entries k entry (omega arith) ∙ ap (λ (e : Entry). take k entries ++ e ∷ []) (sym c.index-entries-k.is) in
    record {
      text = c.put_entry.ensures.text ∙ ap (λ (l : List ℕ). l ++ entry_text entry) c.writing.invariant.text ∙ flat_map_more entry_text old (take k entries) entry ∙ ap (λ (es : List Entry). old ++ flat_map entry_text es) (sym taken);
      each = subst (All IsSpelled) (sym taken) (All-push IsSpelled (take k entries) entry c.writing.invariant.each c.put_entry.ensures.spelled);
      room = omega arith;
    }
