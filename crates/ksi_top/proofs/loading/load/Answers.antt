use Rattle.std.proofs.Common.{rules, subst, ◌∙◌}
use Rattle.std.proofs.lemmas.Result.{IfOk-weaker}
use Rattle.ksi_tlv.specs.Spelling.{AreBytes}
use Rattle.ksi_top.proofs.Loads.{read_after, unloaded}
use Rattle.ksi_top.proofs.loading.load.Goals as goal

pub returns-in_err-bytes-clause-loaded : goal.returns-in_err-bytes-clause-loaded
returns-in_err-bytes-clause-loaded g c = unloaded g.F.Files g.W.FileWord.kind _ _ _ _ _ _ _ _ c.in_err-bytes.ensures.loaded (search rules)

pub returns-clause-loaded : goal.returns-clause-loaded
returns-clause-loaded g c = read_after g.F.Files g.W.FileWord.kind _ _ _ _ _ _ _ _ _ c.as_slice-slice.ensures c.in_ok-bytes.ensures.loaded c.read.ensures.told c.read.ensures.halts

pub returns-clause-bytes : goal.returns-clause-bytes
returns-clause-bytes g c = λ tells.
    IfOk-weaker c.read.result _ _ (λ value is. subst AreBytes (c.as_slice-slice.ensures ∙ c.in_ok-bytes.ensures.whole tells) c.are_bytes.ensures) c.read.ensures.is
