pub mod TrigLaws
