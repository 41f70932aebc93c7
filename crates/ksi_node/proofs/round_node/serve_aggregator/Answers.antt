use Rattle.std.proofs.Common.{◌≡◌, [], ◌∷◌, ◌++◌, ◌∙◌, refl, sym, subst}
use Rattle.std.specs.Io.KnownBytes.{Appends}
use Rattle.ksi_node.specs.RoundOutcomes.{RoundOutcome}
use Rattle.ksi_node.specs.Inlet.{came_line, is_long, HaveCome, NoFeed}
use Rattle.ksi_node.specs.Serving.{ready_text}
use Rattle.ksi_node.proofs.Lines.{all_came, have_come, line_free, none_yet}
use Rattle.ksi_node.proofs.ServeLemmas.{passed_on, served_first, served_more}
use Rattle.ksi_node.proofs.round_node.serve_aggregator.Goals as goal

pub serving-init : goal.serving-init
serving-init g c =
    let told = g.O.Outlet.said c.args.out.now in
    let now = g.O.Outlet.said c.say_ready.new.out in
    let ready : Appends told now (ready_text c.args.store.now.records) = subst (λ n. Appends told now (ready_text n)) c.records.ensures c.in_ok-say_ready.ensures.said in
    record {
      there = c.requires.there;
      me = c.requires.me;
      kept = c.requires.kept;
      faults = refl;
      served = record {
        lines = [];
        came = none_yet (g.R.Read.remaining c.args.reader.now);
        served = served_first (RoundOutcome g.C.Compress.image c.args.plan.now c.args.me) c.args.store.now.records c.args.store.now told now ready;
      };
    }

pub returns-then-is_end : goal.returns-then-is_end
returns-then-is_end g c =
    let served = c.serving.invariant.served in
    record {
      served = (
        served.lines,
        all_came served.lines c.in_ok-came.came c.next_line.new.line.items (g.R.Read.remaining c.args.reader.now) (g.R.Read.remaining c.serving.reader) (g.R.Read.remaining c.next_line.new.reader)
            (sym c.is_end.ensures ∙ c.if-is_end.true) served.came c.in_ok-came.ensures.came,
        served.served,
      );
      counted = c.serving.invariant.faults;
    }

pub serving-preserved : goal.serving-preserved
serving-preserved g c =
    let served = c.serving.invariant.served in
    let came = c.in_ok-came.came in
    let text = c.next_line.new.line.items in
    let line = came_line c.is_long.result c.deref.result.now in
    let input = g.R.Read.remaining c.args.reader.now in
    let left = g.R.Read.remaining c.next_line.new.reader in
    let same : came_line (is_long came) text ≡ line = (λ i. came_line (sym c.is_long.ensures i) (sym c.deref.ensures.value i)) in
    record {
      there = c.serving.invariant.there;
      me = c.in_ok-take_what_came.ensures.me ∙ c.serving.invariant.me;
      kept = c.in_ok-take_what_came.ensures.kept;
      faults = c.in_ok-take_what_came.ensures.counted ∙ c.serving.invariant.faults;
      served = record {
        lines = served.lines ++ line ∷ [];
        came = subst (λ one. HaveCome (served.lines ++ one ∷ []) input left) same (have_come served.lines came text input (g.R.Read.remaining c.serving.reader) left (sym c.is_end.ensures ∙ c.if-is_end.false) served.came c.in_ok-came.ensures.came);
        served = served_more (RoundOutcome g.C.Compress.image c.args.plan.now c.args.me) c.args.store.now.records served.lines line c.args.store.now c.serving.store c.take_what_came.new.store
            (g.O.Outlet.said c.args.out.now) (g.O.Outlet.said c.serving.out) (g.O.Outlet.said c.take_what_came.new.out) served.served c.in_ok-take_what_came.ensures.answered;
      };
    }

pub take_what_came-requires-clause-free : goal.take_what_came-requires-clause-free
take_what_came-requires-clause-free g c = λ short.
    subst NoFeed (sym c.deref.ensures.value)
    (line_free c.in_ok-came.came c.next_line.new.line.items (g.R.Read.remaining c.serving.reader) (g.R.Read.remaining c.next_line.new.reader) (sym c.is_end.ensures ∙ c.if-is_end.false) c.in_ok-came.ensures.came (sym c.is_long.ensures ∙ short))

pub returns-in_err-say_ready-clause-counted : goal.returns-in_err-say_ready-clause-counted
returns-in_err-say_ready-clause-counted g c = passed_on c.from_residual.result _ _ c.from_residual.ensures.1 (c.in_err-say_ready.ensures.calm (g.D.Disk.faults c.args.store.now.log.disk))
