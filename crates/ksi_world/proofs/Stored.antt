-- Messages stay what they are while more is said and sent.
use Rattle.std.proofs.Common.{◌≡◌, ℕ, zero, suc, ◌<◌, List, [], ◌∷◌, ◌++◌, length, refl, sym, ap, ◌∙◌, arith, Option, Some}
use Rattle.std.specs.Prelude.{slice_get, option_map}
use Rattle.ksi_world.specs.declared.message.Content.{Content}
use Rattle.ksi_world.specs.declared.message.Message.{Message}
use Rattle.ksi_world.specs.declared.posted.Said.{Said}
use Rattle.ksi_world.specs.declared.posted.Sent.{Sent}
use Rattle.ksi_world.specs.Messages.{addressed, content_of, message_in, messages_in, AreSaid}

get_kept : {A : Type 0} (xs more : List A) (k : ℕ) → k < length xs → slice_get (xs ++ more) k ≡ slice_get xs k
get_kept [] more k lt = absurd (omega (arith, lt))
get_kept (x ∷ xs) more zero lt = refl
get_kept (x ∷ xs) more (suc k) lt = get_kept xs more k (omega (arith, lt))

messages_kept : (said more : List Said) (sent : List Sent) → AreSaid said sent → messages_in (said ++ more) sent ≡ messages_in said sent
messages_kept said more [] are = refl
messages_kept said more (one ∷ sent) are =
    ap (λ (m : Message). m ∷ messages_in (said ++ more) sent) (ap (addressed one.addressee) (get_kept said more one.said are.0))
    ∙ ap (λ (ms : List Message). message_in said one ∷ ms) (messages_kept said more sent are.1)

messages_behind : (said : List Said) (sent : List Sent) (one : Sent) → messages_in said (sent ++ one ∷ []) ≡ messages_in said sent ++ message_in said one ∷ []
messages_behind said [] one = refl
messages_behind said (first ∷ sent) one = ap (λ (ms : List Message). message_in said first ∷ ms) (messages_behind said sent one)

-- more is said, and of it one more message
pub messages_more : (said more said' : List Said) (sent sent' : List Sent) (one : Sent) (new : Said) → said' ≡ said ++ more → sent' ≡ sent ++ one ∷ []
    → slice_get said' one.said ≡ Some new → AreSaid said sent → messages_in said' sent' ≡ messages_in said sent ++ addressed one.addressee (Some new) ∷ []
messages_more said more said' sent sent' one new grew sends at are =
    ap (λ (ss : List Sent). messages_in said' ss) sends
    ∙ messages_behind said' sent one
    ∙ ap (λ (o : Option Said). messages_in said' sent ++ addressed one.addressee o ∷ []) at
    ∙ ap (λ (ms : List Message). ms ++ addressed one.addressee (Some new) ∷ []) (ap (λ (s : List Said). messages_in s sent) grew ∙ messages_kept said more sent are)

-- what the message of a number says
pub content_is : (before now : List Message) (k : ℕ) (m : Message) (content : Content) → now ≡ before → slice_get before k ≡ Some m
    → option_map content_of (slice_get now k) ≡ Some content → m.content ≡ content
content_is before now k m content same at is =
    let some : Some m.content ≡ Some content = ap (option_map content_of) (sym at) ∙ ap (λ (ms : List Message). option_map content_of (slice_get ms k)) (sym same) ∙ is in cc some
