use Rattle.std.proofs.Common.{rules, ◌≡◌, map, ◌∙◌, ap, subst, true, false}
use Rattle.std.specs.Prelude.{string_bytes}
use Rattle.std.specs.List.{list_any}
use Rattle.clap.specs.Words.{HasKind, app_of, fault_of, is_simple_and_free}
use Rattle.ksi_words.specs.Words.{begins_with_dash, texts}
use Rattle.ksi_words.specs.Grammar.{app_over, form_of}
use Rattle.ksi_words.proofs.WordLemmas.{any_text}
use Rattle.ksi_words.proofs.Commands.{app_with, app_free}
use Rattle.ksi_words.proofs.Misfits.{forms, forms_good, dash_refused, error_reads}
use Rattle.ksi_words.proofs.Parsed.{found_words, named_reads, words_are_got, words_got}
use Rattle.ksi_words.proofs.words.command.Goals as goal

pub returns-then-has_dash : goal.returns-then-has_dash
returns-then-has_dash c =
    let dash : list_any (λ word. begins_with_dash (string_bytes word)) c.args.words.now ≡ true = search rules in
    record { reads = dash_refused (texts c.args.words.now) (any_text begins_with_dash c.args.words.now ∙ dash); early = tt }

pub returns-in-Err : goal.returns-in-Err
returns-in-Err c =
    let plain : list_any (λ word. begins_with_dash (string_bytes word)) c.args.words.now ≡ false = search rules in
    let forms_are : map form_of c.as_slice.result.now ≡ forms = search rules in
    let app_is : app_of c.in-Ok.grammar ≡ app_with forms = c.in-Ok.ensures ∙ ap app_over forms_are in
    let kinds = c.in-Err.ensures.kinds (ap is_simple_and_free app_is ∙ app_free forms forms_good) in
    let reads = error_reads (texts c.args.words.now) c.in-Err.error (any_text begins_with_dash c.args.words.now ∙ plain) (subst (λ app. HasKind (fault_of app (texts c.args.words.now)) c.in-Err.error) app_is kinds) in
    record { reads = rw (c.refusal.ensures, c.kind.ensures) reads; early = tt }

pub returns-in_default-get_raw : goal.returns-in_default-get_raw
returns-in_default-get_raw c =
    let plain : list_any (λ word. begins_with_dash (string_bytes word)) c.args.words.now ≡ false = search rules in
    let forms_are : map form_of c.as_slice.result.now ≡ forms = search rules in
    let app_is : app_of c.in-Ok.grammar ≡ app_with forms = c.in-Ok.ensures ∙ ap app_over forms_are in
    let parse = c.in-Ok-try_get_matches_from in
    let found = found_words (texts c.args.words.now) (app_of c.in-Ok.grammar) app_is (any_text begins_with_dash c.args.words.now ∙ plain) parse.matches parse.ensures.kinds parse.ensures.matches c.subcommand.result c.in-Some.name c.in-Some.matches c.subcommand.ensures.name c.subcommand.ensures.rows c.in-Some.is in
    absurd (words_are_got c.get_raw.result _ found.0 c.in_default-get_raw.is c.get_raw.ensures found.2)

pub returns : goal.returns
returns c =
    let plain : list_any (λ word. begins_with_dash (string_bytes word)) c.args.words.now ≡ false = search rules in
    let forms_are : map form_of c.as_slice.result.now ≡ forms = search rules in
    let app_is : app_of c.in-Ok.grammar ≡ app_with forms = c.in-Ok.ensures ∙ ap app_over forms_are in
    let parse = c.in-Ok-try_get_matches_from in
    let found = found_words (texts c.args.words.now) (app_of c.in-Ok.grammar) app_is (any_text begins_with_dash c.args.words.now ∙ plain) parse.matches parse.ensures.kinds parse.ensures.matches c.subcommand.result c.in-Some.name c.in-Some.matches c.subcommand.ensures.name c.subcommand.ensures.rows c.in-Some.is in
    let words_are : map (λ word. word.now) c.in-Some-get_raw.words.now ≡ found.0 = words_got c.get_raw.result c.in-Some-get_raw.words _ found.0 c.in-Some-get_raw.is c.get_raw.ensures found.2 in
    record { reads = named_reads (texts c.args.words.now) c.in-Some.name.now found.0 _ c.by_name.result (any_text begins_with_dash c.args.words.now ∙ plain) found.1 words_are c.by_name.ensures.reads; early = c.by_name.ensures.early }
