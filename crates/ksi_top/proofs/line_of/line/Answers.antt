use Rattle.std.proofs.Common.{◌≡◌, ℕ, List, Bool, true, false, length, ◌∙◌, refl, subst, arith, rules}
use Rattle.std.specs.Prelude.{IfOk, nat_lt}
use Rattle.ksi_logblock.specs.LogReading.{log_at}
use Rattle.ksi_top.specs.LineOf.{TellsLine, line_told, lined}
use Rattle.ksi_top.specs.Log.{IsLogTold}
use Rattle.ksi_top.proofs.Ends.{IsEnd, ends_as, saving_ends}
use Rattle.ksi_top.proofs.Logs.{log_ends}
use Rattle.ksi_top.proofs.Performing.{halted_last, performed_last}
use Rattle.ksi_top.proofs.line_of.line.Goals as goal

told_ends : (seed : List ℕ) (k : ℕ) (out : List ℕ) (lines : List (List ℕ)) → IsEnd 1 (line_told seed k out lines)
told_ends seed k out lines = by (nat_lt k (length lines)) refl
  where
    by : (there : Bool) → nat_lt k (length lines) ≡ there → IsEnd 1 (line_told seed k out lines)
    by true is = rw is (saving_ends _ _ _)
    by false is = rw is (record { judged = refl; few = omega arith })

lined_ends : (seed : List ℕ) (k : ℕ) (out log : List ℕ) → IsEnd 1 (lined seed k out log)
lined_ends seed k out log = log_ends 1 (log_at log) (line_told seed k out) (told_ends seed k out)

pub returns-in_err-log : goal.returns-in_err-log
returns-in_err-log g c =
    halted_last g.F.Files _ _ _ _ (λ log held. lined c.args.seed.now c.args.k c.args.out.now log) _ _ _ _ _ (λ log. lined_ends c.args.seed.now c.args.k c.args.out.now log) c.in_err-log.ensures.loaded (search rules)

pub returns : goal.returns
returns g c =
    let ends = lined_ends c.args.seed.now c.args.k c.args.out.now c.in_ok-log.log in
    let told = rw c.as_slice.ensures at c.lined.ensures.told in
    performed_last g.F.Files _ _ _ _ (λ log held. lined c.args.seed.now c.args.k c.args.out.now log) _ _ _ _ c.lined.result _
    ends c.in_ok-log.ensures.loaded c.ended.ensures (ends_as 1 _ _ told ends) (λ tells. told)
    (λ tells. subst (λ (log : List ℕ). IfOk c.lined.result (IsLogTold (TellsLine c.args.seed.now c.args.k c.args.out.now) log)) (c.as_slice.ensures ∙ c.in_ok-log.ensures.whole tells) c.lined.ensures.means)
