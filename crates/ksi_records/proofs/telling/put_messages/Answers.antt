use Rattle.std.proofs.Common.{◌≡◌, ℕ, suc, ◌+◌, ◌∷◌, ◌++◌, [], List, drop, map, sym, ap, ◌∙◌, arith, Some, append_assoc}
use Rattle.std.specs.Prelude.{slice_get, option_map}
use Rattle.ksi_schedule.specs.Pieces.{Text}
use Rattle.ksi_schedule.specs.Printed.{line_of, text_of_lines}
use Rattle.ksi_world.specs.declared.message.Message.{Message}
use Rattle.ksi_world.specs.Messages.{lent_message}
use Rattle.ksi_records.specs.Texts.{message_words}
use Rattle.ksi_records.proofs.WireLemmas.{from_number}
use Rattle.ksi_records.proofs.telling.put_messages.Goals as goal

pub telling-preserved : goal.telling-preserved
telling-preserved c =
    let wire = c.args.wire.now in
    let number = c.telling.number in
    let at : slice_get wire number ≡ Some (lent_message c.in-Some.message) = sym c.get.ensures ∙ ap (option_map lent_message) c.in-Some.is in
    let next : suc number ≡ number + 1 = omega arith in
    let m = lent_message c.in-Some.message in
    let from = from_number wire number m at in
    let told = c.telling.text.items in
    let rest = text_of_lines (map message_words (drop (number + 1) wire)) in
    ap (λ (text : Text). text ++ rest) c.in_ok-put_message-in-Some.ensures
    ∙ append_assoc told (line_of (message_words m) ++ 10 ∷ []) rest
    ∙ ap (λ (text : Text). told ++ text) (append_assoc (line_of (message_words m)) (10 ∷ []) rest)
    ∙ ap (λ (n : ℕ). told ++ text_of_lines (map message_words (m ∷ drop n wire))) (sym next)
    ∙ ap (λ (ms : List Message). told ++ text_of_lines (map message_words ms)) (sym from)
    ∙ c.telling.invariant
