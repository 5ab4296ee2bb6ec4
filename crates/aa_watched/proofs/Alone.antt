-- A walk that holds the thread's token, with which it opens a cell. Assumes `Logic`.
--     holding_token, proved_alone       a contract beside that token, and a walk that has it
use Rattle.aa_watched.proofs.Walk.{List, subst, Ura, Fn, Callee, ent, fst∗, snd∗, via, every, fact_use, Running, Carries, bare_tables, over, ◌≼⁺◌, WpFn, Calls, Loops, Tables, Logic, sem, Ises, Are, owns_show, showss, RattleType, owns, types_at, Ended, Clauses, closing, on_entry, alive, triple_of, Meets, entered, Stays, walk_of, AllGo, walk_Meets}
use prog.Model.{Model}
use contract.Named.{bare_unfolds}
use contract.Running.{tables_of}
use sound.WpLaws.{WpFn-mono}
use denote.Triple.Handed.{holding, hands}

module _ {M : Type 1} {𝓤 : Ura M} (𝓛 : Logic 𝓤) (E : Ended) (stays : Stays E.signature.params E.kept) (c : Clauses 𝓤 E) where
  open 𝓛 use {H, A}

  abbrev pub holding_token : Clauses 𝓤 E
  holding_token = holding 𝓤 E (A.tok every) c

  pub proved_alone : (𝓜 : Model 𝓤 H) (𝓡 : Running 𝓤 H 𝓜) → AllGo 𝓛 E.signature.lifetimes E.signature.params E.kept stays
      → (k : Callee) (f : Fn) → over 𝓡.env f ≼⁺ 𝓡.env k
      → ((C : Calls 𝓤 H) (Λ : Loops 𝓤 H) (y : (walk_of 𝓛 E stays holding_token).Ghost)
      → Are (types_at E.signature.params y.0.0) (Ises (types_at E.signature.params y.0.0)) y.0.3 y.0.4
      → ent 𝓤 ((walk_of 𝓛 E stays holding_token).pre y)
      (WpFn 𝓤 H C Λ f ((walk_of 𝓛 E stays holding_token).args y) ((walk_of 𝓛 E stays holding_token).post y)))
      → Meets 𝓛 E.signature (𝓡.run (𝓡.env k)) (closing 𝓛 E c)
  unfolding tables_of
  proved_alone 𝓜 𝓡 go k f is walk =
      let 𝓒 : Carries 𝓤 H 𝓜 (A.tok every) = subst (Carries 𝓤 H 𝓜) 𝓛.turn_is 𝓡.carries in
      let 𝓣 : Tables 𝓤 H = tables_of 𝓤 H 𝓒.inner (bare_tables 𝓤 H 𝓒.inner 𝓡.allowed 𝓡.how 𝓡.env) in
      hands 𝓛 E (A.tok every) c 𝓜 𝓒 𝓡 (𝓡.env k)
      (entered 𝓤 H (triple_of 𝓛 E.signature (closing 𝓛 E holding_token)) 𝓣.C 𝓣.Λ k f (bare_unfolds 𝓤 H 𝓒.inner 𝓡.allowed 𝓡.how 𝓡.env k f is)
      (walk_Meets 𝓛 E stays go holding_token (WpFn 𝓤 H 𝓣.C 𝓣.Λ f) (WpFn-mono 𝓤 H 𝓛.laws 𝓣 f) (λ y.
      let Rs : List RattleType = types_at E.signature.params y.0.0 in let a = y.0.3 in let vss = y.0.4 in
      fact_use 𝓤 (Are Rs (Ises Rs) a vss)
      (via 𝓤 (sem 𝓛 (owns Rs a vss)) (via 𝓤 (on_entry 𝓛 E.signature y.0.0 y.0.1 a vss)
      (fst∗ 𝓤 (on_entry 𝓛 E.signature y.0.0 y.0.1 a vss) ((holding_token y.0.0 a).requires y.1))
      (snd∗ 𝓤 (alive 𝓛 E.signature y.0.0 y.0.1) (sem 𝓛 (owns Rs a vss)))) (owns_show 𝓛 Rs (Ises Rs) (showss 𝓛 Rs) a vss)) (walk 𝓣.C 𝓣.Λ y))))
