-- What a refused command printed at most.
use Rattle.std.proofs.Common.{◌≡◌, ◌⊎◌, ℕ, List, [], ◌∷◌, ◌++◌, Bool, true, refl, sym, ◌∙◌, ap, subst, inl, inr}
use Rattle.std.proofs.lemmas.List.{append-nil}
use Rattle.std.proofs.lemmas.Option.{IfSome_then}
use Rattle.std.specs.Prelude.{⊤, Option, Some, None, Result, Ok, IfOk, IfSome, IsOkAnd, option_and_then}
use Rattle.std.specs.Io.KnownBytes.{Appends}
use Rattle.std.specs.Option.{option_map}
use Rattle.std.specs.Result.{result_map_both}
use Rattle.block_file.specs.Block.{parsed_block}
use Rattle.block_file.specs.Schedule.{parsed_schedule}
use Rattle.block_file.specs.declared.fault.BlockFault.{BlockFault}
use Rattle.byte_streams.specs.declared.fault.WriteFault.{WriteFault}
use Rattle.clap.specs.Words.{Text}
use Rattle.cmdline.specs.Line.{Asked, RunOf, SeqOf, ConflictsOf, DriveOf, AsmOf, DisOf, DebugOf, MigrateOf, ChainOf}
use Rattle.debugger.specs.Replay.{ReplayState}
use Rattle.debugger.specs.Session.{AppendsBeginning, MayBeCutOff}
use Rattle.session_durability.specs.Durable.{FileMoment, IsFileAnswer, IsShutBy}
use Rattle.session_requests.specs.Requests.{Ask, requests_of}
use Rattle.session_requests.specs.declared.request.RequestFault.{RequestFault}
use Rattle.rv_ledger.specs.declared.job.Job.{Job}
use Rattle.session_serving.specs.Serving.{Answering, AreAnswered, IsAnswerCutAt, IsEndedBy, IsServed, Shutting, end_text, end_fault_of, until_quit}
use Rattle.session_serving.specs.declared.serving.ServeFault.{ServeFault}
use Rattle.session_serving.specs.declared.serving.ServeFault.TheVariants.{Broken, Unreadable, Output, Shut}
use Rattle.session_turns.specs.Failures.{IsAnswer}
use Rattle.session_turns.specs.Turn.{new_session}
use Rattle.session_turns.specs.declared.settings.Settings.{Settings}
use Rattle.engines.proofs.SameFiles.{text_is}
use Rattle.engines.proofs.Told.{part_begins}
use Rattle.engines.specs.Chain.{never_shut}
use Rattle.engines.specs.Conflicts.{IsConflictsFault, IsConflictsText}
use Rattle.engines.specs.Debug.{first_moment, replayed_text, session_text, IsReplayedFault}
use Rattle.engines.specs.Dis.{IsListingFault, listing_of_file}
use Rattle.engines.specs.Drive.{IsDriveFault, IsScheduledFault, text_along}
use Rattle.engines.specs.Engine.{answer_of, loaded_job, text_of, IsOutputFault, IsRefusedJob, IsRunFault}
use Rattle.engines.specs.Headline.{BeginsResult, BeginsSession, IsPartOfNext, PrintsAtMost, PrintsPart}
use Rattle.engines.specs.Program.{AreCountsAsked, Contents, IsCutKept, IsCutSession, IsRefusedAs, Prints, chain_settings}
use Rattle.engines.specs.Run.{IsWorkersFault}
use Rattle.engines.specs.declared.counts.RunCounts.{RunCounts}
use Rattle.engines.specs.declared.fault.Refusal.{Refusal}
use Rattle.engines.specs.declared.fault.Refusal.TheVariants as refusal
use Rattle.engines.specs.declared.fault.SeqFault.TheVariants.{Memory}

-- ---- a text that a write cut short

of_output : (may_refuse : WriteFault → Type 0) (text : List ℕ) (old new : Option (List ℕ)) (e : Refusal) → IsOutputFault may_refuse text old new e → ((fault : WriteFault) × may_refuse fault) × AppendsBeginning old new text
of_output may_refuse text old new (refusal.Output fault) h = ((fault, h.0), part_begins old new text h.1)
of_output may_refuse text old new e h = absurd h

-- ---- the result of a job

abbrev IsOfJob : Contents → Option (List ℕ) → Job → Type 0
IsOfJob content input job = IfSome input (λ bytes. IfSome (loaded_job content (parsed_block bytes)) (λ wanted. wanted ≡ Ok job))

of_loaded : (loaded : Option (Result Job Refusal)) (job : Job) (P : List ℕ → Type 0) → IfSome loaded (λ wanted. wanted ≡ Ok job) → P (text_of job)
    → IfSome (option_map (result_map_both text_of (λ fault. fault)) loaded) (λ answer. IsOkAnd answer P)
of_loaded None job P is h = tt
of_loaded (Some wanted) job P is h = subst (λ w. IsOkAnd (result_map_both text_of (λ fault. fault) w) P) (sym is) h

of_input : (content : Contents) (input : Option (List ℕ)) (job : Job) (P : List ℕ → Type 0) → IsOfJob content input job → P (text_of job)
    → IfSome (option_and_then (λ bytes. answer_of content (parsed_block bytes)) input) (λ answer. IsOkAnd answer P)
of_input content None job P is h = tt
of_input content (Some bytes) job P is h = of_loaded (loaded_job content (parsed_block bytes)) job P is h

module _ (content : Contents) (may_refuse : WriteFault → Type 0) (old new : Option (List ℕ)) (file : Text) where
  of_job : (job : Job) → IsOfJob content (content file) job → ((fault : WriteFault) × may_refuse fault) × AppendsBeginning old new (text_of job) → PrintsPart may_refuse old new (BeginsResult content old new file)
  of_job job is h = inr (h.0, of_input content (content file) job (AppendsBeginning old new) is h.1)

  of_run : (job : Job) (workers : ℕ) (e : Refusal) → IsOfJob content (content file) job → IsWorkersFault may_refuse workers old new job e → PrintsPart may_refuse old new (BeginsResult content old new file)
  of_run job workers (refusal.Run fault) is h = inl h.0
  of_run job workers (refusal.Output fault) is h = of_job job is (of_output may_refuse (text_of job) old new (refusal.Output fault) h)
  of_run job workers e is h = absurd h

  of_seq : (job : Job) (e : Refusal) → IsOfJob content (content file) job → IsRunFault may_refuse old new job e → PrintsPart may_refuse old new (BeginsResult content old new file)
  of_seq job e is (inl memory) = inl memory.0
  of_seq job e is (inr h) = of_job job is (of_output may_refuse (text_of job) old new e h)

  along : (job : Job) (workers : ℕ) (entries : List ℕ) (e : Refusal) → IsOfJob content (content file) job → IsDriveFault may_refuse (text_along job.block job.store workers entries) old new e
      → PrintsPart may_refuse old new (BeginsResult content old new file)
  along job workers entries (refusal.Drive fault) is h = inl h.0
  along job workers entries (refusal.Output fault) is h =
      of_job job is (of_output may_refuse (text_of job) old new (refusal.Output fault) (text_is (λ text. IsOutputFault may_refuse text old new (refusal.Output fault)) job.block job.store workers entries h))
  along job workers entries e is h = absurd h

  of_drive : (job : Job) (may_fail : Type 0) (workers : ℕ) (schedule : Option (Result (List ℕ) BlockFault)) (e : Refusal) → IsOfJob content (content file) job
      → IsScheduledFault may_fail may_refuse workers schedule old new job e → PrintsPart may_refuse old new (BeginsResult content old new file)
  of_drive job may_fail workers schedule e is (inl h) = inl h.0
  of_drive job may_fail workers schedule e is (inr h) = along job workers h.0 e is h.2

  of_conflicts : (job : Job) (e : Refusal) → IsOfJob content (content file) job → IsConflictsFault may_refuse old new job e
      → PrintsPart may_refuse old new (IfSome (content file) (λ input. IfSome (loaded_job content (parsed_block input)) (λ wanted. IsOkAnd wanted (λ job. (text : List ℕ) × IsConflictsText job text × AppendsBeginning old new text))))
  of_conflicts job e is (inl h) = inl h.0
  of_conflicts job e is (inr h) =
      let cut = of_output may_refuse h.0 old new e h.2 in
      inr (
        cut.0,
        IfSome_then (content file) is (λ input loaded. IfSome_then (loaded_job content (parsed_block input)) loaded
            (λ wanted w. subst (λ x. IsOkAnd x (λ job. (text : List ℕ) × IsConflictsText job text × AppendsBeginning old new text)) (sym w) (h.0, h.1, cut.1))),
      )

  of_listing : (may_fail : Type 0) (e : Refusal) → IsListingFault may_fail may_refuse (content file) old new e
      → PrintsPart may_refuse old new (IfSome (content file) (λ bytes. IsOkAnd (listing_of_file bytes) (AppendsBeginning old new)))
  of_listing may_fail e (inl h) = inl h.0
  of_listing may_fail e (inr h) =
      let cut = of_output may_refuse h.0 old new e h.2.1 in
      inr (cut.0, IfSome_then (content file) h.1 (λ bytes listed. subst (λ x. IsOkAnd x (AppendsBeginning old new)) (sym listed) cut.1))

-- ---- the session of a replay

both : {X : Type 0} (o : Option X) (P Q : X → Type 0) {R : X → Type 0} → IfSome o P → IfSome o Q → ((x : X) → P x → Q x → R x) → IfSome o R
both None P Q h k f = tt
both (Some x) P Q h k f = f x h k

of_text : (r : Result (List ℕ) Refusal) (text : List ℕ) (P : List ℕ → Type 0) → r ≡ Ok text → IfOk r P → IsOkAnd r P
of_text r text P is h = subst (λ x. IsOkAnd x P) (sym is) (subst (λ x. IfOk x P) is h)

module _ (content : Contents) (old new : Option (List ℕ)) (more : Bool) (call : ℕ) where
  of_session : (job : Result Job Refusal) (wanted : Job) (first : ReplayState) (lines : List ℕ) → job ≡ Ok wanted → first_moment wanted call ≡ Some first
      → IfOk (replayed_text more job call lines) (AppendsBeginning old new) → IsOkAnd (replayed_text more job call lines) (AppendsBeginning old new)
  of_session job wanted first lines is at cut =
      of_text (replayed_text more job call lines) _ (AppendsBeginning old new) (ap (λ j. replayed_text more j call lines) is ∙ ap (λ r. session_text more r lines) at) cut

  of_replay : (may_fail : Type 0) (may_refuse : WriteFault → Type 0) (job : Job) (input typed : Option (List ℕ)) (e : Refusal) → IsOfJob content input job
      → IsReplayedFault may_fail may_refuse call old new job e
      → IfSome input (λ bytes. IfSome typed (λ lines. IfSome (loaded_job content (parsed_block bytes)) (λ j. IfOk (replayed_text more j call lines) (AppendsBeginning old new))))
      → (new ≡ old) ⊎ IfSome input (λ bytes. IfSome typed (λ lines. IfSome (loaded_job content (parsed_block bytes)) (λ j. IsOkAnd (replayed_text more j call lines) (AppendsBeginning old new))))
  of_replay may_fail may_refuse job input typed e is (inl h) cut = inl h.0
  of_replay may_fail may_refuse job None typed e is (inr h) cut = inr tt
  of_replay may_fail may_refuse job (Some bytes) None e is (inr h) cut = inr tt
  of_replay may_fail may_refuse job (Some bytes) (Some lines) e is (inr h) cut =
      inr (both (loaded_job content (parsed_block bytes)) (λ j. j ≡ Ok job) _ is cut (λ j same c. of_session j job h.0 lines same h.1 c))

-- ---- a session of requests

module _ {S : Type 0} (answers : Answering S) (first : S) (bytes : List ℕ) (old new : Option (List ℕ)) where
  -- all of the requests were answered
  served : (fault : Option RequestFault) (after : S) → IsServed answers fault first bytes after old new → BeginsSession answers first bytes old new
  served fault after h = (
    until_quit (requests_of bytes).asks,
    [],
    h.0,
    after,
    end_text (end_fault_of (requests_of bytes)),
    sym (append-nil _),
    h.1,
    ([], append-nil _),
    subst (λ f. Appends old new (h.0 ++ end_text f)) (sym h.2) h.3,
  )

  nothing_next : (fault : Option RequestFault) (s : S) (rest : List Ask) → IsPartOfNext answers fault s rest []
  nothing_next fault s [] = (end_text fault, refl)
  nothing_next fault s (ask ∷ asks) = inl refl

  cut_at : (fault : Option RequestFault) (s after : S) (rest : List Ask) (part : List ℕ) → IsAnswerCutAt answers fault s rest part after → IsPartOfNext answers fault s rest part
  cut_at fault s after [] part h = (h.0, h.1)
  cut_at fault s after (ask ∷ asks) part h = inr (h.0, after, h.1)

  -- the first ones were answered
  answered : (heard rest : List Ask) (text : List ℕ) (mid : S) → until_quit (requests_of bytes).asks ≡ heard ++ rest → AreAnswered answers first heard text mid → Appends old new text → BeginsSession answers first bytes old new
  answered heard rest text mid is done h =
      (heard, rest, text, mid, [], is, done, nothing_next (end_fault_of (requests_of bytes)) mid rest, subst (λ t. Appends old new t) (sym (append-nil text)) h)

  ended : {F : Type 0} (may_fail : Type 0) (shuts : Shutting S F) (fault : ServeFault F) (after : S) → IsEndedBy may_fail answers shuts fault first bytes after old new → BeginsSession answers first bytes old new
  ended may_fail shuts (Broken fault) after h = served (Some fault) after h
  ended may_fail shuts Unreadable after h = answered h.0 h.1 h.2 after h.3 h.4 h.5
  ended may_fail shuts (Output fault) after h =
      (h.0, h.1, h.2, h.3, h.4, h.5, h.6, cut_at (end_fault_of (requests_of bytes)) h.3 after h.1 h.4 h.7, h.8)
  ended may_fail shuts (Shut fault) after h = answered h.0 (h.1 ∷ h.2) h.3 h.4 h.5 h.6 h.7

of_cut : (settings : Settings) (old new : Option (List ℕ)) (bytes : List ℕ) (e : Refusal) → IsCutSession settings old new bytes e → (new ≡ old) ⊎ BeginsSession (IsAnswer settings) (new_session settings) bytes old new
of_cut settings old new bytes e (inl h) = inl h.0
of_cut settings old new bytes e (inr h) = inr (ended (IsAnswer settings) (new_session settings) bytes old new ⊤ never_shut h.0 h.1 h.3)

of_kept : (may_fail : Type 0) (settings : Settings) (old new : Option (List ℕ)) (bytes : List ℕ) (e : Refusal) → IsCutKept may_fail settings old new bytes e
    → (new ≡ old) ⊎ ((first : FileMoment) × BeginsSession (IsFileAnswer settings) first bytes old new)
of_kept may_fail settings old new bytes e (inl h) = inl h.0
of_kept may_fail settings old new bytes e (inr (inl h)) = inr (h.1, ended (IsFileAnswer settings) h.1 bytes old new may_fail (IsShutBy settings) h.0 h.2 h.4)
of_kept may_fail settings old new bytes e (inr (inr h)) = inr (h.0.0, served (IsFileAnswer settings) h.0.0 bytes old new None h.0.1 h.0.2)

over_input : {A : Type 0} (typed : Option (List ℕ)) (P Q : List ℕ → Type 0) → IfSome typed P → ((bytes : List ℕ) → P bytes → A ⊎ Q bytes) → A ⊎ IfSome typed Q
over_input None P Q h f = inr tt
over_input (Some bytes) P Q h f = f bytes h

-- ---- each command

of_debug : (content : Contents) (may_fail : Type 0) (may_refuse : WriteFault → Type 0) (old new : Option (List ℕ)) (more : Bool) (call : ℕ) (file : Text) (typed : Option (List ℕ)) (e : Refusal)
    → IsRefusedJob (refusal.Seq Memory) (IsReplayedFault may_fail may_refuse call) (content file ≡ None) (content file) content old new e
    → IfSome (content file) (λ bytes. IfSome typed (λ lines. IfSome (loaded_job content (parsed_block bytes)) (λ j. IfOk (replayed_text more j call lines) (AppendsBeginning old new))))
    → (new ≡ old) ⊎ IfSome (content file) (λ bytes. IfSome typed (λ lines. IfSome (loaded_job content (parsed_block bytes)) (λ j. IsOkAnd (replayed_text more j call lines) (AppendsBeginning old new))))
of_debug content may_fail may_refuse old new more call file typed e (inl h) cut = inl h.0
of_debug content may_fail may_refuse old new more call file typed e (inr h) cut = of_replay content old new more call may_fail may_refuse h.0 (content file) typed e h.1 h.2 cut

pub refused_prints : (content : Contents) (may_fail : Type 0) (typed : Option (List ℕ)) (may_refuse : WriteFault → Type 0) (old new : Option (List ℕ)) (asked : Asked) (e : Refusal)
    → IsRefusedAs content may_fail typed may_refuse old new asked e → PrintsAtMost content typed may_refuse old new asked
refused_prints content may_fail typed may_refuse old new (RunOf file workers counts) e (inl h) = inl (inl h.0)
refused_prints content may_fail typed may_refuse old new (RunOf file workers counts) e (inr h) = inl (of_run content may_refuse old new file h.0 workers e h.1 h.2)
refused_prints content may_fail typed may_refuse old new (SeqOf file) e (inl h) = inl h.0
refused_prints content may_fail typed may_refuse old new (SeqOf file) e (inr h) = of_seq content may_refuse old new file h.0 e h.1 h.2
refused_prints content may_fail typed may_refuse old new (ConflictsOf file) e (inl h) = inl h.0
refused_prints content may_fail typed may_refuse old new (ConflictsOf file) e (inr h) = of_conflicts content may_refuse old new file h.0 e h.1 h.2
refused_prints content may_fail typed may_refuse old new (DriveOf file workers schedule counts) e (inl h) = inl (inl h.0)
refused_prints content may_fail typed may_refuse old new (DriveOf file workers schedule counts) e (inr h) =
    inl (of_drive content may_refuse old new file h.0 (content schedule ≡ None) workers (option_map parsed_schedule (content schedule)) e h.1 h.2)
refused_prints content may_fail typed may_refuse old new (AsmOf file out) e h = h.0
refused_prints content may_fail typed may_refuse old new (DisOf file) e h = of_listing content may_refuse old new file (content file ≡ None) e h
refused_prints content may_fail typed may_refuse old new (DebugOf file call more) e h =
    of_debug content (MayBeCutOff may_fail typed) may_refuse old new more call file typed e h.0 h.1
refused_prints content may_fail typed may_refuse old new (MigrateOf file out) e h = h.0
refused_prints content may_fail typed may_refuse old new (ChainOf workers limit gas digest brief None) e h =
    over_input typed _ _ h (λ bytes cut. of_cut (chain_settings limit gas digest brief) old new bytes e cut)
refused_prints content may_fail typed may_refuse old new (ChainOf workers limit gas digest brief (Some file)) e h =
    over_input typed _ _ h (λ bytes cut. of_kept ⊤ (record (chain_settings limit gas digest brief) { keeps_digest = true }) old new bytes e cut)

-- a command that was done, whose counts could not be printed
pub counted_prints : (content : Contents) (typed : Option (List ℕ)) (may_refuse : WriteFault → Type 0) (old new : Option (List ℕ)) (asked : Asked) (counts : RunCounts)
    → AreCountsAsked content asked (Some counts) → Prints content typed old new asked → PrintsAtMost content typed may_refuse old new asked
counted_prints content typed may_refuse old new (RunOf file workers true) counts are h = inr (refl, h)
counted_prints content typed may_refuse old new (DriveOf file workers schedule true) counts are h = inr (refl, h)
counted_prints content typed may_refuse old new asked counts are h = cc
