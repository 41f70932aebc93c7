use Rattle.std.proofs.Common.{◌⊎◌, ◌∙◌, ℕ, ◌+◌, List, [], ◌∷◌, ◌++◌, length, ap, sym, subst}
use Rattle.ksi_disk.specs.ImageLaws.{leaves_more}
use Rattle.ksi_disk.specs.Costs.{Affords}
use Rattle.ksi_disk.specs.Logs.{IsAfter, IsBeforeOrAfter}
use Rattle.ksi_nodestore.specs.Stores.{IsFileOf}
use Rattle.ksi_nodestore.proofs.Onward.{file_after, file_either, on_ok}
use Rattle.ksi_nodestore.proofs.Sizes.{affords_text, text_few}
use Rattle.ksi_nodestore.proofs.Writings.{appended_text, gate_is}
use Rattle.ksi_nodestore.proofs.appending.append_fact.Goals as goal

pub append-requires-clause-size : goal.append-requires-clause-size
append-requires-clause-size g c = text_few c.args.fact.now c.put_fact.new.record_.content c.put_fact.ensures.text c.requires.lawful

pub returns-clause-kept : goal.returns-clause-kept
returns-clause-kept g c = λ me plan facts is may.
    let file = g.D.Disk.content c.args.log.now.disk in
    let fact = c.args.fact.now in
    let content = c.put_fact.new.record_.content in
    let lawful = c.facts_one_by_one.ensures.more plan.cores plan.start facts fact is.file.are.lawful may in
    on_ok c.append.result c.append.ensures.acknowledged
    (λ done. record {
      settled = done.0;
      from = c.append.ensures.from ∙ is.from;
      file = file_after me plan facts fact content file (g.D.Disk.content c.append.new.self.disk) c.put_fact.ensures.text lawful is.file (subst (λ (n : ℕ). IsAfter n file content (g.D.Disk.content c.append.new.self.disk)) is.from done.1);
    })

pub returns-clause-any_moment : goal.returns-clause-any_moment
returns-clause-any_moment g c = λ me plan facts is may.
    let log = c.args.log.now in
    let file = g.D.Disk.content log.disk in
    let fact = c.args.fact.now in
    let content = c.put_fact.new.record_.content in
    let lawful = c.facts_one_by_one.ensures.more plan.cores plan.start facts fact is.file.are.lawful may in
    leaves_more g.D.Disk.moment g.D.Disk.images_since log.disk c.append.new.self.disk (IsBeforeOrAfter log.from file content) (λ image. IsFileOf me plan facts image ⊎ IsFileOf me plan (facts ++ fact ∷ []) image)
    c.append.ensures.any_moment (λ image either. file_either me plan facts fact content file c.put_fact.ensures.text lawful is.file image (subst (λ (n : ℕ). IsBeforeOrAfter n file content image) is.from either))

pub returns-clause-exact : goal.returns-clause-exact
returns-clause-exact g c = λ me plan facts is file_is.
    let log = c.args.log.now in
    let file = g.D.Disk.content log.disk in
    let gate = gate_is facts file log.from log.gate is.from is.file.are.texts is.settled.standing (c.records_stand_one_after_the_other.ensures 18 file) in
    on_ok c.append.result c.append.ensures.written
    (λ written. appended_text me plan facts c.args.fact.now file c.put_fact.new.record_.content (g.D.Disk.content c.append.new.self.disk) log.gate file_is c.put_fact.ensures.text gate written)

pub returns-clause-enough : goal.returns-clause-enough
returns-clause-enough g c = λ affords.
    c.append.ensures.sure (subst (λ (n : ℕ). Affords (n + 6) 4 (g.D.Disk.meter c.args.log.now.disk)) (sym (ap (λ (l : List ℕ). length l) c.put_fact.ensures.text.text))
    (affords_text c.args.fact.now c.put_fact.new.record_.content (g.D.Disk.meter c.args.log.now.disk) c.put_fact.ensures.text affords))
