use Rattle.std.proofs.Common.{◌≡◌, [], ◌∷◌, ◌++◌, codes, map, ◌∙◌, ap, sym}
use Rattle.std.proofs.lemmas.Simd.{map-map}
use Rattle.std.specs.Fmt.{decimal}
use Rattle.std.proofs.lemmas.Result.{on_ok_weaker}
use Rattle.ksi_schedule.specs.Printed.{text_of_lines}
use Rattle.ksi_signature.specs.PartsSeen.{chain_seen}
use Rattle.ksi_signature.specs.Seen.{seen}
use Rattle.ksi_verifier.specs.Chains.{first_chain, plain_chain, plain_chains}
use Rattle.ksi_verifier.specs.Lent.{lent_chain}
use Rattle.ksi_texts.specs.Calendar.{calendar_rows, record_rows}
use Rattle.ksi_texts.specs.Chains.{chains_rows}
use Rattle.ksi_texts.specs.Text.{document_row, signature_text}
use Rattle.ksi_texts.proofs.RowLemmas.{then_rows}
use Rattle.ksi_texts.proofs.signature.put_signature.Goals as goal

pub returns : goal.returns
unfolding signature_text
returns c =
    let signature = seen c.args.signature.now in
    let chains : map lent_chain c.chains-chains.result.now ≡ plain_chains signature.chains
    = sym (map-map plain_chain chain_seen c.chains-chains.result.now) ∙ ap plain_chains c.chains-chains.ensures.chains in
    let document : c.put_document.new.text.items ≡ c.put.new.text.items ++ text_of_lines (document_row (first_chain (plain_chains signature.chains)) ∷ [])
    = c.in_ok-put_document.ensures ∙ (λ i. c.put.new.text.items ++ text_of_lines (document_row (first_chain (chains i)) ∷ [])) in
    let rows : c.put_chains.new.text.items ≡ c.put_document.new.text.items ++ text_of_lines (chains_rows 0 0 (plain_chains signature.chains))
    = c.in_ok-put_chains.ensures ∙ (λ i. c.put_document.new.text.items ++ text_of_lines (chains_rows 0 0 (chains i))) in
    let above : c.put_calendar.new.text.items ≡ c.put_chains.new.text.items ++ text_of_lines (calendar_rows signature.calendar)
    = c.in_ok-put_calendar.ensures ∙ (λ i. c.put_chains.new.text.items ++ text_of_lines (calendar_rows (c.calendar.ensures i))) in
    on_ok_weaker _
    (λ e. let last : c.put_record.new.text.items ≡ c.put_calendar.new.text.items ++ text_of_lines (record_rows signature.publication)
    = e ∙ (λ i. c.put_calendar.new.text.items ++ text_of_lines (record_rows (c.publication.ensures i))) in
    then_rows _ _ _ ((codes "signature of" ∷ decimal c.args.size ∷ codes "bytes" ∷ []) ∷ [])
    (document_row (first_chain (plain_chains signature.chains)) ∷ (chains_rows 0 0 (plain_chains signature.chains) ++ (calendar_rows signature.calendar ++ record_rows signature.publication))) c.in_ok-put.ensures
    (then_rows _ _ _ (document_row (first_chain (plain_chains signature.chains)) ∷ []) (chains_rows 0 0 (plain_chains signature.chains) ++ (calendar_rows signature.calendar ++ record_rows signature.publication)) document
    (then_rows _ _ _ (chains_rows 0 0 (plain_chains signature.chains)) (calendar_rows signature.calendar ++ record_rows signature.publication) rows
    (then_rows _ _ _ (calendar_rows signature.calendar) (record_rows signature.publication) above last))))
    c.put_record.ensures
