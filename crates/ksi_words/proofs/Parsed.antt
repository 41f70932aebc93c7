-- What is read from the matches of a parse.
use Rattle.std.proofs.Common.{◌≡◌, List, [], ◌∷◌, map, codes, Option, Some, None, option_map, Result, refl, sym, ap, subst, ◌∙◌, Bor, true}
use Rattle.std.specs.Prelude.{Box}
use Rattle.std.specs.Box.{box_value}
use Rattle.std.specs.declared.alloc.Global.{Global}
use Rattle.clap.specs.Walk.{Row, Text, all_of}
use Rattle.clap.specs.Words.{App, HasMatchesOf, fault_of, is_simple, is_simple_and_free, subcommand_of, found_of, matched_of, raw_values, rows_of, subcommand_name_of, subcommand_rows, subcommand_rows_of}
use Rattle.clap.specs.declared.parser.matches.ArgMatches.{ArgMatches}
use Rattle.clap.specs.declared.parser.matches.ArgMatches.TheViews.{out-ArgMatches, out-SubCommand}
use Rattle.clap.specs.declared.parser.matches.SubCommand.{SubCommand}
use Rattle.clap.specs.declared.parser.matches.Found.{Found}
use Rattle.clap.proofs.WalkLemmas.{raw_values-rows}
use Rattle.ksi_imprint.specs.declared.refused.Refused.{Refused}
use Rattle.ksi_words.specs.Words.{Reads, command_form, command_named, command_of, table}
use Rattle.ksi_words.specs.declared.asked.Command.{Command}
use Rattle.ksi_words.specs.declared.asked.WordsRefusal.{WordsRefusal}
use Rattle.ksi_words.proofs.Commands.{app_free, app_simple, app_with}
use Rattle.ksi_words.proofs.Leaf.{AllPlain, words_row}
use Rattle.ksi_words.proofs.Misfits.{forms, forms_good, plain_form, subcommand_named}

name_of_entered : (entered : Option (Box SubCommand Global)) → option_map (λ b. (out-SubCommand (box_value b)).name.now) entered ≡ option_map (λ p. p.0) (subcommand_rows entered)
name_of_entered None = refl
name_of_entered (Some b) = refl

name_of_rows : (m : ArgMatches) → subcommand_name_of m ≡ option_map (λ p. p.0) (subcommand_rows_of m)
name_of_rows m = name_of_entered (out-ArgMatches m).subcommand

same_text : (a b : Text) → Some a ≡ Some b → a ≡ b
same_text a b e = cc (e)

same_rows : (a b : List Row) → Some a ≡ Some b → a ≡ b
same_rows a b e = cc (e)

name_found : (m : ArgMatches) (found : Option (Bor Text × Bor ArgMatches)) (name : Bor Text) (matches : Bor ArgMatches) (n : Text) (rows : List Row) → subcommand_rows_of m ≡ Some (n, rows) → option_map (λ p. p.0.now) found ≡ subcommand_name_of m → found ≡ Some (name, matches) → name.now ≡ n
name_found m found name matches n rows is names e =
    same_text name.now n (ap (option_map (λ p. p.0.now)) (sym e) ∙ names ∙ name_of_rows m ∙ ap (option_map (λ p. p.0)) is)

rows_found : (m : ArgMatches) (found : Option (Bor Text × Bor ArgMatches)) (name : Bor Text) (matches : Bor ArgMatches) (n : Text) (rows : List Row) → subcommand_rows_of m ≡ Some (n, rows) → option_map (λ p. rows_of (found_of p.1.now)) found ≡ option_map (λ p. p.1) (subcommand_rows_of m) → found ≡ Some (name, matches) → rows_of (found_of matches.now) ≡ rows
rows_found m found name matches n rows is told e =
    same_rows (rows_of (found_of matches.now)) rows (ap (option_map (λ p. rows_of (found_of p.1.now))) (sym e) ∙ told ∙ ap (option_map (λ p. p.1)) is)

words_found : (f : Found) (words : List Text) → rows_of f ≡ words_row words ∷ [] → option_map raw_values (matched_of f (codes "words")) ≡ Some words
words_found f words is = raw_values-rows f (codes "words") ∙ ap (all_of (codes "words")) is

-- a parse that succeeds has a command's name and its words
module _ (words : List Text) (app : App) (is : app ≡ app_with forms) (plain : AllPlain words) (m : ArgMatches) (kinds : is_simple_and_free app ≡ true → fault_of app words ≡ []) (has : HasMatchesOf app words m) where
  no_fault : fault_of (app_with forms) words ≡ []
  no_fault = subst (λ app. fault_of app words ≡ []) is (kinds (ap is_simple_and_free is ∙ app_free forms forms_good))

  subcommand_is : subcommand_rows_of m ≡ subcommand_of (app_with forms) words
  subcommand_is = (has (ap is_simple is ∙ app_simple forms forms_good)).1 ∙ ap (λ app. subcommand_of app words) is

  pub found_words : (found : Option (Bor Text × Bor ArgMatches)) (name : Bor Text) (matches : Bor ArgMatches) → option_map (λ p. p.0.now) found ≡ subcommand_name_of m → option_map (λ p. rows_of (found_of p.1.now)) found ≡ option_map (λ p. p.1) (subcommand_rows_of m) → found ≡ Some (name, matches) → (rest : List Text) × (words ≡ name.now ∷ rest) × (option_map raw_values (matched_of (found_of matches.now) (codes "words")) ≡ Some rest)
  found_words found name matches names rows e =
      let entered = subcommand_named words plain no_fault in
      let name_is = name_found m found name matches entered.0 _ (subcommand_is ∙ entered.3) names e in
      let rows_are = rows_found m found name matches entered.0 _ (subcommand_is ∙ entered.3) rows e in
      (entered.1, entered.2 ∙ ap (λ (n : Text). n ∷ entered.1) (sym name_is), words_found (found_of matches.now) entered.1 rows_are)

pub named_reads : (words : List Text) (name : Text) (rest read : List Text) (result : Result Command (Refused WordsRefusal)) → AllPlain words → words ≡ name ∷ rest → read ≡ rest → Reads (command_named table name read) result → Reads (command_of words) result
named_reads words name rest read result plain is same reads =
    subst (λ expected. Reads expected result) (sym (plain_form words plain ∙ ap command_form is)) (subst (λ rest. Reads (command_named table name rest) result) same reads)

abbrev slices : Option (Bor (List (Bor Text))) → Option (List Text)
slices = option_map (λ s. map (λ v. v.now) s.now)

pub words_got : (got : Option (Bor (List (Bor Text)))) (words : Bor (List (Bor Text))) (o : Option (List Text)) (rest : List Text) → got ≡ Some words → slices got ≡ o → o ≡ Some rest → map (λ v. v.now) words.now ≡ rest
words_got got words o rest is told found = some_is _ rest (ap slices (sym is) ∙ told ∙ found)
  where
    some_is : (a b : List Text) → Some a ≡ Some b → a ≡ b
    some_is a b e = cc (e)

pub words_are_got : (got : Option (Bor (List (Bor Text)))) (o : Option (List Text)) (rest : List Text) → got ≡ None → slices got ≡ o → o ≡ Some rest → ⊥
words_are_got got o rest is told found = apart rest (ap slices (sym is) ∙ told ∙ found)
  where
    apart : (rest : List Text) → None ≡ Some rest → ⊥
    apart rest e = absurd (cc (e))
