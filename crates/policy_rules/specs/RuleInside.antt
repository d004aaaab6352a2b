-- Conversion between the fields of a rule and the record that contracts see.
use Rattle.policy_rules.specs.declared.rule.Rule.TheInside.{Inside}
use Rattle.policy_rules.specs.RuleValue.{RuleValue}

abbrev pub rule_value : Inside → RuleValue
rule_value r = record {
  act = r.act;
  func = r.func;
  mask = r.mask;
  fsmagic = r.fsmagic;
  fsuuid = r.fsuuid;
  fsname = r.fsname;
  uid = r.uid;
  euid = r.euid;
  gid = r.gid;
  egid = r.egid;
  fowner = r.fowner;
  fgroup = r.fgroup;
  need = r.need;
  blacklist = r.blacklist;
  algos = r.algos;
  directio = r.directio;
  pcr = r.pcr;
  template = r.template;
}

abbrev pub rule_inside : RuleValue → Inside
rule_inside r = record {
  act = r.act;
  func = r.func;
  mask = r.mask;
  fsmagic = r.fsmagic;
  fsuuid = r.fsuuid;
  fsname = r.fsname;
  uid = r.uid;
  euid = r.euid;
  gid = r.gid;
  egid = r.egid;
  fowner = r.fowner;
  fgroup = r.fgroup;
  need = r.need;
  blacklist = r.blacklist;
  algos = r.algos;
  directio = r.directio;
  pcr = r.pcr;
  template = r.template;
}
