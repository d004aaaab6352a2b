-- Conversion between the fields of an action and the record that contracts see.
use Rattle.policy_rules.specs.declared.access.Action.TheInside.{Inside}
use Rattle.policy_rules.specs.ActionValue.{ActionValue}

abbrev pub action_value : Inside → ActionValue
action_value a = record {
  measure = a.measure;
  pcr = a.pcr;
  template = a.template;
  appraise = a.appraise;
  need = a.need;
  algos = a.algos;
  audit = a.audit;
  hash = a.hash;
}

abbrev pub action_inside : ActionValue → Inside
action_inside a = record {
  measure = a.measure;
  pcr = a.pcr;
  template = a.template;
  appraise = a.appraise;
  need = a.need;
  algos = a.algos;
  audit = a.audit;
  hash = a.hash;
}
