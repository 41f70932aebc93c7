use Rattle.std.proofs.Common.{◌≡◌, ◌∙◌, ◌+◌, ◌++◌, ℕ, List, [], ◌∷◌, append_assoc, add-one, arith, ap, sym}
use Rattle.std.proofs.lemmas.List.{map_push}
use Rattle.ksi_synod.specs.Voters.{cores_below}
use Rattle.ksi_synod.specs.declared.messages.SynodMessage.{SynodMessage}
use Rattle.ksi_corenode.specs.declared.step.Send.{Send}
use Rattle.ksi_corenode.specs.declared.step.Send.TheVariants as sends
use Rattle.ksi_corenode.specs.Turns.{to_each}
use Rattle.ksi_corenode.proofs.sending.push_all.Goals as goal

to_one_more : (n : ℕ) (m : SynodMessage) → to_each (cores_below (n + 1)) m ≡ to_each (cores_below n) m ++ sends.Synod n m ∷ []
to_one_more n m = rw add-one (map_push (λ core. sends.Synod core m) (cores_below n) n)

pub loop-core-preserved : goal.loop-core-preserved
loop-core-preserved c =
    let l = c.loop-core in
    let message = c.args.message.now in
    record {
      sent = c.put.ensures.items
          ∙ ap (λ (xs : List Send). xs ++ sends.Synod l.core message ∷ []) l.invariant.sent
          ∙ append_assoc c.args.sends.now.items (to_each (cores_below l.core) message) (sends.Synod l.core message ∷ [])
          ∙ ap (λ (xs : List Send). c.args.sends.now.items ++ xs) (sym (to_one_more l.core message));
      room = omega (arith, c.put.ensures.room, l.invariant.room);
      len = omega (arith, c.put.ensures.len, l.invariant.len);
    }
