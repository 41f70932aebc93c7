-- Issued signatures are extended and accepted.
use Rattle.std.proofs.Common.{◌≡◌, ℕ, ◌^◌, ◌<◌, ◌≤◌, List, ◌∷◌, length, refl, sym, ap, subst, ◌∙◌, arith, Some}
use Rattle.std.specs.Prelude.{◌↔◌, Ok, slice_get}
use Rattle.ksi_imprint.specs.Imprints.{IsImprint}
use Rattle.ksi_split.specs.declared.tree_link.TreeLink.{TreeLink}
use Rattle.ksi_split.specs.Trees.{climb_links}
use Rattle.ksi_calendar.specs.Climbing.{ClimbsCalendar, calendar_join}
use Rattle.ksi_tlv.specs.Spelling.{AreBytes}
use Rattle.ksi_aggtree.specs.declared.chains.node.Node.{Node}
use Rattle.ksi_aggtree.specs.declared.chains.link.Link.{Link}
use Rattle.ksi_calendar.specs.Calendar.{Seconds, calendar_leaf, calendar_path, calendar_root}
use Rattle.ksi_calendar.specs.Covered.{Roots, IsCovered, covered_seconds, covered_root, second_leaf}
use Rattle.ksi_signature.specs.declared.above.Above.{Above}
use Rattle.ksi_signature.specs.declared.signature.Signature.{Signature}
use Rattle.ksi_signature.specs.Carried.{MayBeIssued}
use Rattle.ksi_signature.specs.Extended.{extended_text}
use Rattle.ksi_signature.specs.File.{IsSignature}
use Rattle.ksi_signature.specs.Issued.{own_chain, issued}
use Rattle.ksi_signature.specs.Written.{signature_text}
use Rattle.ksi_verifier.specs.declared.aggregated.Aggregated.{Aggregated}
use Rattle.ksi_verifier.specs.declared.verdict.Verdict.TheVariants.{Accepted}
use Rattle.ksi_verifier.specs.ChainChecks.{aggregated}
use Rattle.ksi_verifier.specs.Verdict.{chain_root, verdict}
use Rattle.ksi_journal.specs.Journal.{Contents, root_at}
use Rattle.ksi_extender.specs.Extended.{chain_to, record_to, extended}
use Rattle.ksi_extender.specs.Accepted.{first_time, first_input, extended_signature, AcceptedBy, LeadsToKept}
use Rattle.ksi_auditor.specs.Audit.{audit}
use Rattle.ksi_auditor.specs.Shown.{HasLinks, IsDecided, Shows, Tells}
use Rattle.ksi_schedule.specs.Plans.{PlanState}
use Rattle.ksi_world.specs.declared.outcome.Asked.{Asked}
use Rattle.ksi_world.specs.Histories.{WorldState}
use Rattle.ksi_world.specs.Records.{kept_root}
use Rattle.ksi_world.specs.Joined.{ChainsClimb, IsJoined}
use Rattle.ksi_replay.specs.Lasting.{AreNotBare, KeepsRoots, Publish, LastsTo}
use Rattle.ksi_replay.proofs.Chaining.{RoundLaw, carried_named, issued_links}

-- the first chain of what is issued
first_is : (second : ℕ) (input : List ℕ) (links : List Link) (above : Above) → (first_input (issued second input links above) ≡ input) × (first_time (issued second input links above) ≡ second)
unfolding issued
first_is second input links above = (refl, refl)

-- where more is known, what was covered is covered
abbrev pub More : Type 0
More = (roots more : Roots) (start p : ℕ) → IsCovered roots start p → ((t : ℕ) → start ≤ t → t ≤ p → (root : List ℕ) → roots t ≡ Some root → more t ≡ Some root) → IsCovered more start p

-- the laws below
pub record Laws (image : List ℕ → List ℕ) (journal : Contents) : Type 0 where
  pub aggregates : (second : ℕ) (input : List ℕ) (links : List Link) (above : Above) (top : Node) → AreNotBare (own_chain input links ∷ above.chains) → ChainsClimb image (record { imprint = input; level = 0 }) (own_chain input links ∷ above.chains) top → aggregated image (issued second input links above) ≡ Ok (record { time = second; node = top })
  pub rounds : RoundLaw
  pub whole : (second : ℕ) (input : List ℕ) (links : List Link) (above : Above) → MayBeIssued second input links above → IsSignature (signature_text (issued second input links above)) (issued second input links above)
  pub short : (second : ℕ) (input : List ℕ) (links : List Link) (above : Above) → MayBeIssued second input links above → length (signature_text (issued second input links above)) ≤ 10000
  pub early : (p : ℕ) → IsCovered (root_at journal) journal.start p → p < 2 ^ 63
  pub known : More
  pub leaves : (roots : Roots) (start last t : ℕ) → t ≤ last → calendar_leaf (covered_seconds roots start last) t ≡ second_leaf roots start t
  pub climbs : (seconds : Seconds) (t p : ℕ) → t ≤ p → ClimbsCalendar image (calendar_leaf seconds t) (calendar_path image seconds t p) (calendar_root image seconds p)
  pub value : (start top : List ℕ) (links : List (TreeLink (List ℕ))) → ClimbsCalendar image start links top ↔ (top ≡ climb_links (calendar_join image) start links)
  pub extends : (bytes : List ℕ) (signature : Signature) (chains : Aggregated) (p : ℕ) → AreBytes bytes → LeadsToKept image journal bytes signature chains p → extended image journal bytes p ≡ Ok (extended_text bytes (chain_to image journal chains.time p) (record_to image journal p))
  pub accepts : (bytes text : List ℕ) (signature : Signature) (p : ℕ) → AreBytes bytes → IsSignature bytes signature → extended image journal bytes p ≡ Ok text → (publications : List (ℕ × List ℕ)) → AcceptedBy image journal signature p publications
  pub again : (bytes text : List ℕ) (signature : Signature) (p : ℕ) → p < 2 ^ 63 → AreBytes bytes → IsSignature bytes signature → extended image journal bytes p ≡ Ok text → IsSignature text (extended_signature image journal signature p)
  pub tells : (signature : Signature) (hash : List ℕ) (publications : List (ℕ × List ℕ)) (t : ℕ) → verdict image signature hash publications ≡ Accepted t → IsDecided image journal signature → Tells (audit image journal signature hash publications)
  pub shows : (signature : Signature) (hash : List ℕ) (publications : List (ℕ × List ℕ)) → IsImprint hash → HasLinks signature → Shows image journal signature hash (audit image journal signature hash publications)

module _ (plan : PlanState) (w : WorldState) (journal : Contents) (keeps : KeepsRoots plan w journal) where
  -- what is covered by what the cores keep is covered by the journal
  pub covered_too : More → (p : ℕ) → IsCovered (kept_root plan w) plan.start p → IsCovered (root_at journal) journal.start p
  covered_too known p covered = subst (λ start. IsCovered (root_at journal) start p) (sym keeps.start)
      (known (kept_root plan w) (root_at journal) plan.start p covered (λ t from to root at. keeps.roots t ∙ at))

  -- and the other way round
  pub covered_back : More → (p : ℕ) → IsCovered (root_at journal) journal.start p → IsCovered (kept_root plan w) plan.start p
  covered_back known p covered = subst (λ start. IsCovered (kept_root plan w) start p) keeps.start
      (known (root_at journal) (kept_root plan w) journal.start p covered (λ t from to root at. sym (keeps.roots t) ∙ at))

  module _ (image : List ℕ → List ℕ) (laws : Laws image journal) where
    -- the calendar chain leads to the root
    chain_leads : (t p : ℕ) → t ≤ p → chain_root image (chain_to image journal t p) ≡ covered_root image (root_at journal) journal.start p
    chain_leads t p to =
        let seconds = covered_seconds (root_at journal) journal.start p in
        sym ((laws.value (second_leaf (root_at journal) journal.start t) (calendar_root image seconds p) (calendar_path image seconds t p)).0
        (subst (λ (leaf : List ℕ). ClimbsCalendar image leaf (calendar_path image seconds t p) (calendar_root image seconds p)) (laws.leaves (root_at journal) journal.start p t to) (laws.climbs seconds t p to)))

    -- so what is extended is decided
    is_decided : (signature : Signature) (p : ℕ) → first_time signature ≤ p → IsCovered (root_at journal) journal.start p → IsDecided image journal (extended_signature image journal signature p)
    is_decided signature p to covered = record {
      calendar = chain_to image journal (first_time signature) p;
      has_calendar = refl;
      covered = covered;
      root = chain_leads (first_time signature) p to;
    }

    module _ (number : ℕ) (text : List ℕ) (are : AreBytes text) (joined : IsJoined image plan w number text) (may : MayBeIssued joined.asked.second joined.asked.imprint joined.links joined.above) where
      abbrev signature : Signature
      signature = issued joined.asked.second joined.asked.imprint joined.links joined.above

      abbrev chains : Aggregated
      chains = record { time = joined.asked.second; node = joined.top }

      leads : (p : ℕ) → joined.asked.second ≤ p → IsCovered (kept_root plan w) plan.start p → LeadsToKept image journal text signature chains p
      leads p to covered = record {
        whole = subst (λ (x : List ℕ). IsSignature x (issued joined.asked.second joined.asked.imprint joined.links joined.above)) (sym joined.text_is) (laws.whole joined.asked.second joined.asked.imprint joined.links joined.above may);
        short = omega (arith, ap (λ (x : List ℕ). length x) joined.text_is, laws.short joined.asked.second joined.asked.imprint joined.links joined.above may);
        aggregation = laws.aggregates joined.asked.second joined.asked.imprint joined.links joined.above joined.top (carried_named laws.rounds joined.asked.second joined.asked.imprint joined.links joined.above may) joined.climbs;
        real = λ zero. joined.real (sym joined.root_is ∙ zero);
        from = subst (λ start. start ≤ joined.asked.second) (sym keeps.start) joined.covered.from;
        root = keeps.roots joined.asked.second ∙ joined.kept ∙ ap (λ (root : List ℕ). Some root) (sym joined.root_is);
        to = to;
        covered = covered_too laws.known p covered;
      }

      lasts : (p : ℕ) → joined.asked.second ≤ p → IsCovered (kept_root plan w) plan.start p → LastsTo image journal joined.asked text p
      lasts p to covered =
          let l = leads p to covered in
          let e = laws.extends text signature chains p are l in
          let first = first_is joined.asked.second joined.asked.imprint joined.links joined.above in
          let new = extended_text text (chain_to image journal joined.asked.second p) (record_to image journal p) in
          let accepted : (publications : List (ℕ × List ℕ)) → Publish image journal p publications → verdict image (extended_signature image journal signature p) joined.asked.imprint publications ≡ Accepted joined.asked.second = λ publications found.
          ap (λ (hash : List ℕ). verdict image (extended_signature image journal signature p) hash publications) (sym first.0)
          ∙ laws.accepts text new signature p are l.whole e publications found
          ∙ ap (λ (t : ℕ). Accepted t) first.1 in
          record {
            signature = signature;
            before = l.whole;
            bytes = new;
            extension = e;
            after = laws.again text new signature p (laws.early p l.covered) are l.whole e;
            accepted = accepted;
            audited = λ publications found.
                laws.tells (extended_signature image journal signature p) joined.asked.imprint publications joined.asked.second (accepted publications found)
                (is_decided signature p (subst (λ (t : ℕ). t ≤ p) (sym first.1) to) l.covered);
            shown = λ publications. laws.shows (extended_signature image journal signature p) joined.asked.imprint publications may.imprint (issued_links joined.asked.second joined.asked.imprint joined.links joined.above may);
          }

      -- of the request of this number
      pub lasts_for : (asked : Asked) → slice_get w.requests number ≡ Some asked → (p : ℕ) → asked.second ≤ p → IsCovered (kept_root plan w) plan.start p → LastsTo image journal asked text p
      lasts_for asked at p to covered =
          let same : joined.asked ≡ asked = cc (sym joined.accepted ∙ at) in
          subst (λ (asked : Asked). LastsTo image journal asked text p) same (lasts p (subst (λ (asked : Asked). asked.second ≤ p) (sym same) to) covered)
