use Rattle.std.proofs.Common.{sym, subst}
use Rattle.std.proofs.lemmas.Result.{on_ok_weaker}
use Rattle.sheet_types.specs.Index.{IsPut}
use Rattle.sheet_types.proofs.Puts.{class_is, id_is, put_any, put_class, put_id, put_type, type_is}
use Rattle.sheet_types.proofs.selector_index.SelectorIndex.put.Goals as goal

pub returns-in-len1-up-clause-value : goal.returns-in-len1-up-clause-value
returns-in-len1-up-clause-value c =
    let key = id_is c.args.subject.now c.ids.result.now c.id-item.result c.as_bytes.result.now c.ids.ensures.value c.in-len1-up.len_at_least c.id-item.is c.as_bytes.ensures in
    on_ok_weaker c.put.result
    (λ put. subst (λ k. IsPut c.args.self.now k c.args.place (record c.args.self.now { ids = c.put.new.self })) (sym key) (put_id c.args.self.now c.put.new.self c.as_bytes.result.now c.args.place put))
    c.put.ensures.value

pub returns-in-len1-up-classes-clause-value : goal.returns-in-len1-up-classes-clause-value
returns-in-len1-up-classes-clause-value c =
    let key = class_is c.args.subject.now c.ids.result.now c.classes.result.now c.class-item.result c.as_bytes-in-len1-up-classes.result.now c.ids.ensures.value c.in_default.len_below
    c.classes.ensures.value c.in-len1-up-classes.len_at_least c.class-item.is c.as_bytes-in-len1-up-classes.ensures in
    on_ok_weaker c.put-in-len1-up-classes.result
    (λ put. subst (λ k. IsPut c.args.self.now k c.args.place (record c.args.self.now { classes = c.put-in-len1-up-classes.new.self })) (sym key)
    (put_class c.args.self.now c.put-in-len1-up-classes.new.self c.as_bytes-in-len1-up-classes.result.now c.args.place put))
    c.put-in-len1-up-classes.ensures.value

pub returns-in-Some-clause-value : goal.returns-in-Some-clause-value
returns-in-Some-clause-value c =
    let key = type_is c.args.subject.now c.ids.result.now c.classes.result.now _ c.ids.ensures.value c.in_default.len_below c.classes.ensures.value c.in_default-classes.len_below c.in-Some.ensures in
    on_ok_weaker c.put-in-Some.result
    (λ put. subst (λ k. IsPut c.args.self.now k c.args.place (record c.args.self.now { types = c.put-in-Some.new.self })) (sym key)
    (put_type c.args.self.now c.put-in-Some.new.self c.in-Some.tag.now c.args.place put))
    c.put-in-Some.ensures.value

pub returns-in_ok-push-in-None-clause-value : goal.returns-in_ok-push-in-None-clause-value
returns-in_ok-push-in-None-clause-value c =
    let key = type_is c.args.subject.now c.ids.result.now c.classes.result.now _ c.ids.ensures.value c.in_default.len_below c.classes.ensures.value c.in_default-classes.len_below c.in-None.ensures in
    subst (λ k. IsPut c.args.self.now k c.args.place (record c.args.self.now { others = c.push.new.self })) (sym key)
    (put_any c.args.self.now c.push.new.self c.args.place c.in_ok-push-in-None.ensures.items)
