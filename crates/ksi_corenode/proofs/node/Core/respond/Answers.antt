use Rattle.std.proofs.Common.{◌∙◌, refl, sym, ap}
use Rattle.std.specs.Prelude.{option_map}
use Rattle.ksi_corenode.specs.Facts.{fact_of}
use Rattle.ksi_corenode.proofs.Storing.{no_fact}
use Rattle.ksi_signature.specs.declared.answer.Answer.TheVariants.{Undecided, NotMine}
use Rattle.ksi_corenode.specs.Rows.{respond_row}
use Rattle.ksi_corenode.specs.CoreState.{state_of, held_by}
use Rattle.ksi_corenode.proofs.Words.{same_answer, stays, respond_after, respond_undecided, respond_not_mine}
use Rattle.ksi_corenode.proofs.node.Core.respond.Goals as goal

pub returns-clause-turn : goal.returns-clause-turn
returns-clause-turn g c =
    let now = c.args.self.now in
    let t = c.args.second in
    let row = respond_row g.C.Compress.image (held_by now) now.start t (state_of now t) in
    record {
      me = refl;
      plan = refl;
      start = refl;
      seconds = stays now t row.after (respond_after g.C.Compress.image (held_by now) now.start t (state_of now t));
      answer = c.in_ok-step.ensures.answer;
      fact = c.in_ok-step.ensures.fact ∙ sym (ap (option_map (fact_of t)) (no_fact (state_of now t) g.C.Compress.image (held_by now) now.start t));
      sends = c.in_ok-step.ensures.sends;
    }

pub returns-clause-undecided : goal.returns-clause-undecided
returns-clause-undecided g c = λ s.
    let now = c.args.self.now in
    let t = c.args.second in
    same_answer c.in_ok-step.step.answer (respond_row g.C.Compress.image (held_by now) now.start t (state_of now t)).answer (Undecided s) c.in_ok-step.ensures.answer
    (respond_undecided g.C.Compress.image (held_by now) now.start t (state_of now t) (record { some = c.one_first_missing.ensures.some; none = c.one_first_missing.ensures.none }) c.requires.from s)

pub returns-clause-not_mine : goal.returns-clause-not_mine
returns-clause-not_mine g c =
    let now = c.args.self.now in
    let t = c.args.second in
    same_answer c.in_ok-step.step.answer (respond_row g.C.Compress.image (held_by now) now.start t (state_of now t)).answer NotMine c.in_ok-step.ensures.answer
    (respond_not_mine g.C.Compress.image (held_by now) now.start t (state_of now t) (record { some = c.one_first_missing.ensures.some; none = c.one_first_missing.ensures.none }) c.requires.from)
