use Rattle.std.proofs.Common.{ℕ, List, Bool, true, false, ◌≡◌, refl, arith, rules}
use Rattle.std.specs.Prelude.{nat_lt}
use Rattle.std.proofs.lemmas.Result.{IfOk-weaker}
use Rattle.ksi_journal.specs.Journal.{Contents}
use Rattle.ksi_top.specs.Front.{front_saved, front_to, fronted}
use Rattle.ksi_top.proofs.Ends.{IsEnd, ends_as, saving_ends}
use Rattle.ksi_top.proofs.Keeping.{unkept_ends}
use Rattle.ksi_top.proofs.Performing.{halted_last, performed_last}
use Rattle.ksi_top.proofs.front.front.Goals as goal

fronted_ends : (out : List ℕ) (p1 p2 : ℕ) (journal : Contents) → IsEnd 1 (fronted out p1 p2 journal)
fronted_ends out p1 p2 journal = by (nat_lt p2 p1) refl
  where
    by : (later : Bool) → nat_lt p2 p1 ≡ later → IsEnd 1 (fronted out p1 p2 journal)
    by true is = rw is (record { judged = refl; few = omega arith })
    by false is = rw is (unkept_ends 1 journal p1 p2 (front_saved out (front_to journal p1 p2)) (saving_ends _ _ _))

pub returns-in_err-journal : goal.returns-in_err-journal
returns-in_err-journal g c =
    halted_last g.F.Files _ _ _ _ (λ j held. fronted c.args.out.now c.args.p1 c.args.p2 j) _ _ _ _ _ (λ j. fronted_ends c.args.out.now c.args.p1 c.args.p2 j) c.in_err-journal.ensures.loaded (search rules)

pub returns : goal.returns
returns g c =
    let ends = fronted_ends c.args.out.now c.args.p1 c.args.p2 c.in_ok-journal.journal in
    performed_last g.F.Files _ _ _ _ (λ j held. fronted c.args.out.now c.args.p1 c.args.p2 j) _ _ _ _ c.fronted.result _
    ends c.in_ok-journal.ensures.loaded c.ended.ensures (ends_as 1 _ _ c.fronted.ensures.told ends) (λ tells. c.fronted.ensures.told)
    (λ tells. IfOk-weaker c.fronted.result _ _ (λ report over. record { contents = _; journal_is = c.in_ok-journal.ensures.is tells; over = over }) c.fronted.ensures.saved)
