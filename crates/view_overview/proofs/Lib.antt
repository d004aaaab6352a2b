pub mod BucketsSteps
