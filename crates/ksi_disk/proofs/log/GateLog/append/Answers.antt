use Rattle.std.proofs.Common.{rules, ◌≡◌, ◌⊎◌, ◌<◌, ◌+◌, ◌^◌, ◌∷◌, [], ◌∙◌, List, ℕ, length, ap, sym, subst, arith, length-append}
use Rattle.ksi_disk.specs.Images.{Torn}
use Rattle.ksi_disk.specs.ImageLaws.{leaves_more}
use Rattle.ksi_disk.specs.declared.ending.Ending.TheVariants.{Closed}
use Rattle.ksi_disk.specs.Gates.{reading_of, staged}
use Rattle.ksi_disk.specs.Logs.{IsAfter, IsBeforeOrAfter}
use Rattle.ksi_disk.proofs.Standing.{stands}
use Rattle.ksi_disk.proofs.Appended.{file_size, torn_either, gates_stand, written_twice, opened_is_after, opened_ending, opened_at_once}
use Rattle.ksi_disk.proofs.log.GateLog.append.Goals as goal

pub write_behind-requires-clause-gate : goal.write_behind-requires-clause-gate
write_behind-requires-clause-gate g c =
    let self = c.args.self.now in
    let file = g.D.Disk.content self.disk in
    file_size self.from self.gate file (stands self.from file self.gate c.requires.settled.standing)

pub returns-in-Ok-clause-acknowledged : goal.returns-in-Ok-clause-acknowledged
returns-in-Ok-clause-acknowledged g c =
    let self = c.args.self.now in
    let file = g.D.Disk.content self.disk in
    let content = c.args.record_.content in
    let standing = stands self.from file self.gate c.requires.settled.standing in
    let text_is = c.deref.ensures.value ∙ c.into_text-text.ensures in
    let opened = c.in-Ok.ensures.written ∙ written_twice self.from self.gate file standing content c.requires.size c.deref.result.now text_is in
    let size : c.len.result ≡ 5 + length content = omega (arith, c.len.ensures, ap length c.into_text-text.ensures, length-append content (0 ∷ [])) in
    let first : self.gate + 1 + length c.deref.result.now < 2 ^ 64 = c.in-Ok.ensures.within in (
      record {
        durable = c.in-Ok.ensures.durable;
        standing = ap (λ (l : List ℕ). (reading_of self.from l).ending) opened ∙ opened_ending self.from self.gate file standing content c.requires.size ∙ ap (λ (k : ℕ). Closed (self.gate + k)) (sym size);
        within = omega (arith, first, size, ap length text_is, length-append content (0 ∷ []));
        fresh = c.requires.settled.fresh;
      },
      subst (λ (l : List ℕ). IsAfter self.from file content l) (sym opened) (opened_is_after self.from self.gate file standing content c.requires.size),
    )

pub returns-in-Ok-clause-written : goal.returns-in-Ok-clause-written
returns-in-Ok-clause-written g c =
    let self = c.args.self.now in
    let file = g.D.Disk.content self.disk in
    let content = c.args.record_.content in
    let standing = stands self.from file self.gate c.requires.settled.standing in
    c.in-Ok.ensures.written
    ∙ written_twice self.from self.gate file standing content c.requires.size c.deref.result.now (c.deref.ensures.value ∙ c.into_text-text.ensures)
    ∙ opened_at_once self.from self.gate file standing content c.requires.size

pub returns-in-Ok-clause-any_moment : goal.returns-in-Ok-clause-any_moment
returns-in-Ok-clause-any_moment g c =
    let self = c.args.self.now in
    let file = g.D.Disk.content self.disk in
    let written = c.deref.result.now in
    let content = c.args.record_.content in
    let standing = stands self.from file self.gate c.requires.settled.standing in
    leaves_more g.D.Disk.moment g.D.Disk.images_since self.disk c.write_behind.new.disk (λ image. Torn (self.gate + 1) (length written) file image ⊎ Torn self.gate 1 (staged file self.gate written) image) (IsBeforeOrAfter self.from file content)
    c.write_behind.ensures.any_moment (torn_either self.from self.gate file standing content c.requires.size written (c.deref.ensures.value ∙ c.into_text-text.ensures))

pub returns-in-Ok-clause-gates : goal.returns-in-Ok-clause-gates
returns-in-Ok-clause-gates g c =
    let self = c.args.self.now in
    let file = g.D.Disk.content self.disk in
    let standing = stands self.from file self.gate c.requires.settled.standing in
    gates_stand self.from self.gate file standing c.args.record_.content c.requires.size c.deref.result.now (c.deref.ensures.value ∙ c.into_text-text.ensures) (g.D.Disk.images c.write_behind.new.disk) c.write_behind.ensures.images

pub returns-clause-any_moment : goal.returns-clause-any_moment
returns-clause-any_moment g c =
    let self = c.args.self.now in
    let file = g.D.Disk.content self.disk in
    let written = c.deref.result.now in
    let content = c.args.record_.content in
    let standing = stands self.from file self.gate c.requires.settled.standing in
    leaves_more g.D.Disk.moment g.D.Disk.images_since self.disk c.write_behind.new.disk (λ image. Torn (self.gate + 1) (length written) file image ⊎ Torn self.gate 1 (staged file self.gate written) image) (IsBeforeOrAfter self.from file content)
    c.write_behind.ensures.any_moment (torn_either self.from self.gate file standing content c.requires.size written (c.deref.ensures.value ∙ c.into_text-text.ensures))

pub returns-clause-gates : goal.returns-clause-gates
returns-clause-gates g c =
    let self = c.args.self.now in
    let file = g.D.Disk.content self.disk in
    let standing = stands self.from file self.gate c.requires.settled.standing in
    gates_stand self.from self.gate file standing c.args.record_.content c.requires.size c.deref.result.now (c.deref.ensures.value ∙ c.into_text-text.ensures) (g.D.Disk.images c.write_behind.new.disk) c.write_behind.ensures.images

pub returns-clause-spent : goal.returns-clause-spent
returns-clause-spent g c = search rules
