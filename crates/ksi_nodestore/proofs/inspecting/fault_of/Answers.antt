use Rattle.std.proofs.Common.{◌≡◌, subst, Err, refl, take}
use Rattle.ksi_nodestore.specs.declared.heads.HeaderFault.{HeaderFault}
use Rattle.ksi_nodestore.specs.declared.heads.HeaderFault.TheVariants as heads
use Rattle.ksi_nodestore.specs.declared.inspected.NodeFault.TheVariants as faults
use Rattle.ksi_nodestore.specs.Headers.{header_at}
use Rattle.ksi_nodestore.proofs.Tellings.{headless}
use Rattle.ksi_nodestore.proofs.inspecting.fault_of.Goals as goal

pub returns-in-NotFormatted : goal.returns-in-NotFormatted
returns-in-NotFormatted c = λ file is.
    let here : header_at (take 18 file) ≡ Err heads.NotFormatted = subst (λ (fault : HeaderFault). header_at (take 18 file) ≡ Err fault) c.in-NotFormatted.is is in
    (headless file heads.NotFormatted faults.NotFormatted here refl, here)

pub returns-in-Bad : goal.returns-in-Bad
returns-in-Bad c = λ file is.
    let bad = c.in-Bad in
    let here : header_at (take 18 file) ≡ Err (heads.Bad bad.core bad.cores bad.start) = subst (λ (fault : HeaderFault). header_at (take 18 file) ≡ Err fault) c.in-Bad.is is in
    (headless file (heads.Bad bad.core bad.cores bad.start) (faults.Bad bad.core bad.cores bad.start) here refl, here)
