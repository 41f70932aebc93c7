use Rattle.std.proofs.Common.{◌≡◌, ◌≤◌, ◌∙◌, ℕ, List, refl, ap, arith, drop, take, length, length-drop}
use Rattle.ksi_nodestore.proofs.Sound.{entry_sound}
use Rattle.ksi_nodestore.proofs.entry_reading.read_entry.Goals as goal

pub returns-clause-sound : goal.returns-clause-sound
returns-clause-sound c =
    let bytes = c.args.bytes.now in
    let rest = c.split_at-2.result.1.now in
    let imprint_is : c.split_at-2.result.0.now ≡ take 33 (drop 4 bytes) = c.split_at-2.ensures.front ∙ ap (λ (l : List ℕ). take 33 l) c.split_at.ensures.back in
    let rest_is : rest ≡ drop 33 (drop 4 bytes) = c.split_at-2.ensures.back ∙ ap (λ (l : List ℕ). drop 33 l) c.split_at.ensures.back in
    let two : 2 ≤ length rest = omega (arith, ap length rest_is, length-drop 33 (drop 4 bytes), length-drop 4 bytes) in
    entry_sound bytes bytes c.split_at-2.result.0.now rest c.split_at-3.result.1.now c.number4.result _ _ c.read_name-name.result c.entry_of.result c.number4.ensures.text imprint_is rest_is refl refl c.split_at-3.ensures.back two c.read_name-name.ensures.sound c.entry_of.ensures.sound
