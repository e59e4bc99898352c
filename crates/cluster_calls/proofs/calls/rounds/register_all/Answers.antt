use Rattle.std.proofs.Common.{◌≡◌, ◌+◌, drop, refl, sym, ap, ◌∙◌}
use Rattle.std.proofs.lemmas.Option.{slice_get_read}
use Rattle.std.specs.FinMap as map_of
use Rattle.loss_listener.specs.Registered.{Registered}
use Rattle.cluster_calls.specs.Listed.{are_new, asked_place, with_asked}
use Rattle.cluster_calls.proofs.CallLaws.{on_ok}
use Rattle.cluster_calls.proofs.ListedLaws.{drop_more, new_first, new_rest, on_err, other_ask, undone}
use Rattle.cluster_calls.proofs.calls.rounds.register_all.Goals as goal

pub loop-ask-init : goal.loop-ask-init
loop-ask-init c = record { all = refl; new_ = c.requires; others = λ n h. refl }

pub register-requires : goal.register-requires
register-requires c =
    let ask = slice_get_read c.args.asks.now _ c.loop-ask.ask-index c.ask-item.result refl c.loop-ask-test.true c.ask-item.is in
    new_first c.loop-ask.listeners c.ask-item.result (drop (c.loop-ask.ask-index + 1) c.args.asks.now)
    (ap (are_new c.loop-ask.listeners) (sym (drop_more c.args.asks.now c.loop-ask.ask-index c.ask-item.result ask)) ∙ c.loop-ask.invariant.new_)

pub loop-ask-preserved : goal.loop-ask-preserved
loop-ask-preserved c =
    let ask = slice_get_read c.args.asks.now _ c.loop-ask.ask-index c.ask-item.result refl c.loop-ask-test.true c.ask-item.is in
    let rest = drop (c.loop-ask.ask-index + 1) c.args.asks.now in
    let here = drop_more c.args.asks.now c.loop-ask.ask-index c.ask-item.result ask in
    let is : c.register.new.self ≡ map_of.insert c.loop-ask.listeners c.ask-item.result.unit (asked_place c.ask-item.result) = on_ok c.register.result (sym c.is_err.ensures.value ∙ c.if-is_err.false) c.register.ensures.ok in
    record {
      all = ap (λ (m : Registered). with_asked m rest) is ∙ ap (with_asked c.loop-ask.listeners) (sym here) ∙ c.loop-ask.invariant.all;
      new_ =
          ap (λ (m : Registered). are_new m rest) is
          ∙ new_rest c.loop-ask.listeners c.ask-item.result rest (ap (are_new c.loop-ask.listeners) (sym here) ∙ c.loop-ask.invariant.new_);
      others = λ n h. ap (λ (m : Registered). map_of.get m n) is ∙ other_ask c.loop-ask.listeners c.args.asks.now c.loop-ask.ask-index c.ask-item.result n ask h ∙ c.loop-ask.invariant.others n h;
    }

pub returns-then-is_err-clause-err : goal.returns-then-is_err-clause-err
returns-then-is_err-clause-err c =
    c.end_all.ensures
    ∙ undone c.args.listeners.now c.register.new.self c.args.asks.now c.requires (λ n h.
    ap (λ (m : Registered). map_of.get m n) (on_err c.register.result (sym c.is_err.ensures.value ∙ c.if-is_err.true) c.register.ensures.err) ∙ c.loop-ask.invariant.others n h)
