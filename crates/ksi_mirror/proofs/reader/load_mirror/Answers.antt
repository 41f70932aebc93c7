use Rattle.std.proofs.Common.{refl, sym, subst}
use Rattle.ksi_tlv.specs.Walking.{elements}
use Rattle.ksi_tlv.specs.Sequence.{IsWhole}
use Rattle.ksi_tlv.proofs.Refusing.{file_refused}
use Rattle.ksi_mirror.specs.Mirrors.{IsMirror}
use Rattle.ksi_mirror.specs.Elements.{MirrorSaid, WantsFor, mirror_order}
use Rattle.ksi_mirror.specs.File.{mirror_format}
use Rattle.ksi_mirror.proofs.reader.load_mirror.Goals as goal

pub new-requires : goal.new-requires
unfolding mirror_format
new-requires c =
    subst IsMirror (sym c.into_parts.ensures) (c.file_is_mirror.ensures.mirror c.args.bytes.now c.walk.new.state.mirror (record {
      rest = c.in-Some.rest.now;
      begins = c.in-Some.ensures.some;
      said = c.walk.new.state;
      whole = subst (λ (s : MirrorSaid). IsWhole mirror_order (elements 8 c.in-Some.rest.now) s c.walk.new.state) c.new-loading.ensures c.in-Ok.ensures.told;
      has = refl;
    }))

pub returns-in-Err-clause-refused : goal.returns-in-Err-clause-refused
unfolding mirror_format
returns-in-Err-clause-refused c =
    file_refused mirror_format WantsFor c.args.bytes.now c.in-Some.rest.now _ c.walk.new.state c.in-Err.refused c.in-Some.ensures.some c.new-loading.ensures c.in-Err.ensures.told c.in-Err.ensures.wanting
