use Rattle.std.proofs.Common.{◌≡◌, ◌∙◌, Option, Bool, true, false, ap, sym, subst}
use Rattle.std.specs.Prelude.{IsTrue}
use Rattle.ksi_synod.specs.CorePlans.{CorePlanState}
use Rattle.ksi_corenode.specs.Lawful.{stored_by, IsLawful}
use Rattle.ksi_corenode.specs.declared.fact.Fact.{Fact}
use Rattle.ksi_nodestore.specs.Texts.{IsTextOf, IsReadOf}
use Rattle.ksi_nodestore.proofs.Spelled.{one_fact}
use Rattle.ksi_nodestore.specs.FactReading.{where_lawful}
use Rattle.ksi_nodestore.proofs.Tested.{next_none}
use Rattle.ksi_nodestore.proofs.Onward.{lawful_after, lawful_before}
use Rattle.ksi_nodestore.proofs.folding.fold_record.Goals as goal

pub returns-then-may_store : goal.returns-then-may_store
returns-then-may_store g c = λ me plan facts lawful of.
    let core = c.args.core.now in
    let fact = c.in-Some.fact in
    let text : IsTextOf fact c.args.content.now = subst (λ (f : Option Fact). IsReadOf c.args.content.now f) c.in-Some.is c.in_ok-read_fact.ensures.sound in
    let stored = c.one_core_of_facts.ensures.stored g.C.Compress.image me plan facts core of in
    let may = lawful_after plan.cores plan.start facts core fact (ap (λ (p : CorePlanState). p.cores) of.planned) of.begins stored (c.may_store.ensures.0 c.if-may_store.true) in
    (fact, text, c.facts_one_by_one.ensures.more plan.cores plan.start facts fact lawful may, c.one_core_of_facts.ensures.next g.C.Compress.image me plan facts fact core c.store.new.self of c.in_ok-store-in-Some.ensures.stored)

pub returns : goal.returns
returns g c = λ me plan facts lawful of.
    let core = c.args.core.now in
    let fact = c.in-Some.fact in
    let text : IsTextOf fact c.args.content.now = subst (λ (f : Option Fact). IsReadOf c.args.content.now f) c.in-Some.is c.in_ok-read_fact.ensures.sound in
    let stored = c.one_core_of_facts.ensures.stored g.C.Compress.image me plan facts core of in
    let unlawful : IsLawful plan.cores plan.start (stored_by facts fact.second) fact → ⊥ = λ is.
    let may = c.may_store.ensures.1 (lawful_before plan.cores plan.start facts core fact (ap (λ (p : CorePlanState). p.cores) of.planned) of.begins stored is) in
    let no : false ≡ true = subst (λ (b : Bool). IsTrue b) c.if-may_store.false may in
    absurd (cc no) in
    record {
      lawful = λ other other_text other_may.
          let same : other ≡ fact = one_fact other fact c.args.content.now other_text text in
          unlawful (subst (λ (f : Fact). IsLawful plan.cores plan.start (stored_by facts f.second) f) same other_may);
      read = next_none plan.cores plan.start facts fact c.args.content.now (sym c.in_ok-read_fact.ensures.read ∙ c.in-Some.is) unlawful;
    }

pub returns-in-None : goal.returns-in-None
returns-in-None g c = λ me plan facts lawful of. record {
  lawful = subst (λ (f : Option Fact). IsReadOf c.args.content.now f → (fact : Fact) → IsTextOf fact c.args.content.now → IsLawful plan.cores plan.start (stored_by facts fact.second) fact → ⊥) (sym c.in-None.is) (λ none fact text may. none fact text) c.in_ok-read_fact.ensures.sound;
  read = ap (λ (found : Option Fact). where_lawful plan.cores plan.start facts found) (sym c.in_ok-read_fact.ensures.read ∙ c.in-None.is);
}
